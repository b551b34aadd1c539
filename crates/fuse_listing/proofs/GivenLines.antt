-- Lines of pins that were given, with that of one name more.
use Rattle.std.proofs.Common.{◌≡◌, ℕ, ◌+◌, ◌<◌, ◌≤◌, Option, None, Some, List, [], ◌∷◌, ◌++◌, map, take, flat_map, length, get_or, min, refl, sym, ap, ◌∙◌, append-nil, arith, slice_get, option_map, zip}
use Rattle.fuse_listing.proofs.Common.{flat_map-append, length-map, length-take, map-append, take_more, slice_get-get_or, slice_get-map, slice_get_past, Declared, Entry, view_declared, given_line, given_lines}
use Rattle.fuse_listing.proofs.Joined.{one_more}

-- a name with its like, if there is one
abbrev paired : {A B : Type 0} → A → Option B → List (A × B)
paired x None = []
paired x (Some y) = (x, y) ∷ []

zip_push : {A B : Type 0} (xs : List A) (x : A) (ys : List B) → zip (xs ++ x ∷ []) ys ≡ zip xs ys ++ paired x (slice_get ys (length xs))
zip_push [] x [] = refl
zip_push [] x (y ∷ ys) = refl
zip_push (z ∷ xs) x [] = refl
zip_push (z ∷ xs) x (y ∷ ys) = ap (λ l. (z, y) ∷ l) (zip_push xs x ys)

-- its line
abbrev line_of : Entry → Option Entry → List ℕ
line_of x None = []
line_of x (Some e) = given_line x e

abbrev pair_line : Entry × Entry → List ℕ
pair_line p = given_line p.0 p.1

one_line : (x : Entry) (o : Option Entry) → flat_map pair_line (paired x o) ≡ line_of x o
one_line x None = refl
one_line x (Some e) = append-nil (given_line x e)

lines_push : (xs es : List Entry) (x : Entry) → given_lines (xs ++ x ∷ []) es ≡ given_lines xs es ++ line_of x (slice_get es (length xs))
lines_push xs es x =
    ap (flat_map pair_line) (zip_push xs x es)
    ∙ (flat_map-append pair_line (zip xs es) (paired x (slice_get es (length xs)))
    ∙ ap (λ l. given_lines xs es ++ l) (one_line x (slice_get es (length xs))))

module _ (ds ps : List Declared) (k : ℕ) (d : Declared) (low : k < length ds) (at : d ≡ get_or ds k d) where
  abbrev so_far : List ℕ
  so_far = given_lines (map view_declared (take k ds)) (map view_declared ps)

  as_many : length (map view_declared (take k ds)) ≡ k
  as_many = length-map (take k ds) view_declared ∙ (length-take k ds ∙ less k (length ds) low)
    where
      less : (a b : ℕ) → a < b → min a b ≡ a
      less a b h = omega (arith, h)

  longer : map view_declared (take (k + 1) ds) ≡ map view_declared (take k ds) ++ view_declared d ∷ []
  longer = ap (map view_declared) (take_more ds k d low ∙ ap (λ x. take k ds ++ x ∷ []) (sym at)) ∙ map-append view_declared (take k ds) (d ∷ [])

  lines : given_lines (map view_declared (take (k + 1) ds)) (map view_declared ps) ≡ so_far ++ line_of (view_declared d) (option_map view_declared (slice_get ps k))
  lines =
      ap (λ xs. given_lines xs (map view_declared ps)) longer
      ∙ (lines_push (map view_declared (take k ds)) (map view_declared ps) (view_declared d)
      ∙ ap (λ o. so_far ++ line_of (view_declared d) o) (ap (slice_get (map view_declared ps)) as_many ∙ slice_get-map view_declared ps k))

  -- a name that is placed too
  pub given_more : (p : Declared) (before old new : List ℕ) → k < length ps → p ≡ get_or ps k p → old ≡ before ++ so_far → new ≡ old ++ given_line (view_declared d) (view_declared p)
      → new ≡ before ++ given_lines (map view_declared (take (k + 1) ds)) (map view_declared ps)
  given_more p before old new there is old_is new_is =
      let here : slice_get ps k ≡ Some p = slice_get-get_or ps k p there ∙ ap Some (sym is) in
      one_more before so_far (given_line (view_declared d) (view_declared p)) old new old_is new_is
      ∙ ap (λ l. before ++ l) (sym (lines ∙ ap (λ o. so_far ++ line_of (view_declared d) (option_map view_declared o)) here))

  -- one past those that are placed
  pub given_past : (before old : List ℕ) → length ps ≤ k → old ≡ before ++ so_far → old ≡ before ++ given_lines (map view_declared (take (k + 1) ds)) (map view_declared ps)
  given_past before old past old_is =
      old_is
      ∙ ap (λ l. before ++ l) (sym (lines ∙ (ap (λ o. so_far ++ line_of (view_declared d) (option_map view_declared o)) (slice_get_past ps k past) ∙ append-nil so_far)))
