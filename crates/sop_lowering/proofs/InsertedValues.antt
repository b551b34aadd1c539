-- Lists that are joined by insertion are true if the sum, and the product, of the two is.
use Rattle.std.proofs.Common.{◌≡◌, ℕ, ◌≤◌, inl, inr, Bool, true, false, cond, ◌&&◌, ◌||◌, nat_lt, List, [], ◌∷◌, ◌++◌, length, Some, None, refl, sym, ap, ◌∙◌, subst, not}
use Rattle.sop_lowering.proofs.Common.{or_lt, Cube, AsksBelow, has_point, covers, is_empty, lies_in, union, empty_has_none, lies_in_points, union_points, Products, adds_nothing, others, insert_one, insert_all, insert_unions, insert_products, product_of, sum_of, HasValue}
use Rattle.std.specs.List.{AllByRecursion, list_any, filter}
use Rattle.std.proofs.lemmas.Bool.{cases_Bool, or_left, or_right, or_cases}
use Rattle.std.proofs.lemmas.List.Folds.{list_any-append}

or_nil : (a : Bool) → (a || false) ≡ a
or_nil true = refl
or_nil false = refl

or_assoc : (a b c : Bool) → ((a || b) || c) ≡ (a || (b || c))
or_assoc true b c = refl
or_assoc false b c = refl

and_no : (a : Bool) → (a && false) ≡ false
and_no true = refl
and_no false = refl

spread : (b c d e : Bool) → (b || (c && (d || e))) ≡ ((b || (c && d)) || (c && e))
spread true c d e = refl
spread false true d e = refl
spread false false d e = refl

spread_left : (b c d e : Bool) → (b || ((c || d) && e)) ≡ ((b || (c && e)) || (d && e))
spread_left true c d e = refl
spread_left false true true true = refl
spread_left false true true false = refl
spread_left false true false true = refl
spread_left false true false false = refl
spread_left false false d e = refl

-- a second that is true only if the first is adds nothing
or_same : (a b : Bool) → (b ≡ true → a ≡ true) → (a || b) ≡ a
or_same true b f = refl
or_same false true f = sym (f refl)
or_same false false f = refl

or_drop : (a b c : Bool) → (a ≡ true → c ≡ true) → ((a || b) || c) ≡ (b || c)
or_drop true true c f = refl
or_drop true false c f = sym (f refl)
or_drop false b c f = refl

or_first : (a b d c : Bool) → (b || c) ≡ (d || c) → ((a || b) || c) ≡ ((a || d) || c)
or_first true b d c e = refl
or_first false b d c e = e

-- ---- inserting a product

absorbed : (rows : List Cube) (c : Cube) (p : List Bool) → list_any (lies_in c) rows ≡ true → has_point c p ≡ true → covers rows p ≡ true
absorbed [] c p any is = absurd cc
absorbed (d ∷ rows) c p any is =
    elim (or_cases (lies_in c d) (list_any (lies_in c) rows) any) [
      | inl here ↦ or_left (has_point d p) (covers rows p) (lies_in_points c d p here is)
      | inr later ↦ or_right (has_point d p) (covers rows p) (absorbed rows c p later is)
    ]

taken_out : (rows : List Cube) (c : Cube) (p : List Bool) → (covers (others rows c) p || has_point c p) ≡ (covers rows p || has_point c p)
taken_out [] c p = refl
taken_out (d ∷ rows) c p =
    let rest = taken_out rows c p in
    elim (cases_Bool (lies_in d c)) [
      | inl out ↦ rw out (rest ∙ sym (or_drop (has_point d p) (covers rows p) (has_point c p) (lies_in_points d c p out)))
      | inr kept ↦ rw kept (or_first (has_point d p) (covers (filter (λ e. not (lies_in e c)) rows) p) (covers rows p) (has_point c p) rest)
    ]

kept_below : (vars : ℕ) (rows : List Cube) (c : Cube) → AllByRecursion (AsksBelow vars) rows → AllByRecursion (AsksBelow vars) (others rows c)
kept_below vars [] c all = tt
kept_below vars (d ∷ rows) c all =
    elim (cases_Bool (lies_in d c)) [
      | inl out ↦ rw out (kept_below vars rows c all.1)
      | inr kept ↦ rw kept (all.0, kept_below vars rows c all.1)
    ]

end_below : (vars : ℕ) (rows : List Cube) (c : Cube) → AllByRecursion (AsksBelow vars) rows → AsksBelow vars c → AllByRecursion (AsksBelow vars) (rows ++ c ∷ [])
end_below vars [] c all low = (low, tt)
end_below vars (d ∷ rows) c all low = (all.0, end_below vars rows c all.1 low)

union_below : (vars : ℕ) (c d : Cube) → AsksBelow vars c → AsksBelow vars d → AsksBelow vars (union c d)
union_below vars c d a b = (or_lt vars c.yes d.yes a.0 b.0, or_lt vars c.no d.no a.1 b.1)

module _ (p : List Bool) (few : length p ≤ 32) where
  abbrev Below : Cube → Type 0
  Below c = AsksBelow (length p) c

  -- if nothing is added, there is nothing to add
  nothing_new : (rows : List Cube) (c : Cube) → Below c → adds_nothing rows c ≡ true → (covers rows p || has_point c p) ≡ covers rows p
  nothing_new rows c low adds =
      or_same (covers rows p) (has_point c p) (λ is. elim (or_cases (is_empty c) (list_any (lies_in c) rows) adds) [
        | inl empty ↦ absurd (empty_has_none c p few low empty is)
        | inr any ↦ absorbed rows c p any is
      ])

  end_value : (rows : List Cube) (c : Cube) → covers (others rows c ++ c ∷ []) p ≡ (covers rows p || has_point c p)
  end_value rows c = rw (list_any-append) (rw (or_nil (has_point c p)) (taken_out rows c p))

  one_more : (found : Products) (c : Cube) (b : Bool) → Below c → HasValue found p b → HasValue (insert_one found c) p (b || has_point c p)
  one_more None c b low has = tt
  one_more (Some rows) c b low has =
      elim (cases_Bool (adds_nothing rows c)) [
        | inl adds ↦ rw adds (has.0, sym (nothing_new rows c low adds) ∙ ap (λ (x : Bool). x || has_point c p) has.1)
        | inr off ↦ rw off (elim (nat_lt (length (others rows c)) 1024) as (λ t. HasValue (cond t (Some (others rows c ++ c ∷ [])) None) p (b || has_point c p)) [
          | true ↦ (end_below (length p) (others rows c) c (kept_below (length p) rows c has.0) low, end_value rows c ∙ ap (λ (x : Bool). x || has_point c p) has.1)
          | false ↦ tt
        ])
      ]

  all_more : (found : Products) (cs : List Cube) (b : Bool) → AllByRecursion Below cs → HasValue found p b → HasValue (insert_all found cs) p (b || covers cs p)
  all_more found [] b low has = rw (or_nil b) has
  all_more found (c ∷ cs) b low has = rw (← or_assoc b (has_point c p) (covers cs p)) (all_more (insert_one found c) cs (b || has_point c p) low.1 (one_more found c b low.0 has))

  unions_more : (found : Products) (c : Cube) (ds : List Cube) (b : Bool) → Below c → AllByRecursion Below ds → HasValue found p b → HasValue (insert_unions found c ds) p (b || (has_point c p && covers ds p))
  unions_more found c [] b low lows has = rw (and_no (has_point c p), or_nil b) has
  unions_more found c (d ∷ ds) b low lows has =
      let step : HasValue (insert_one found (union c d)) p (b || (has_point c p && has_point d p)) = rw (← union_points c d p) (one_more found (union c d) b (union_below (length p) c d low lows.0) has) in
      rw (spread b (has_point c p) (has_point d p) (covers ds p)) (unions_more (insert_one found (union c d)) c ds (b || (has_point c p && has_point d p)) low lows.1 step)

  products_more : (found : Products) (cs ds : List Cube) (b : Bool) → AllByRecursion Below cs → AllByRecursion Below ds → HasValue found p b → HasValue (insert_products found cs ds) p (b || (covers cs p && covers ds p))
  products_more found [] ds b low lows has = rw (or_nil b) has
  products_more found (c ∷ cs) ds b low lows has =
      rw (spread_left b (has_point c p) (covers cs p) (covers ds p)) (products_more (insert_unions found c ds) cs ds (b || (has_point c p && covers ds p)) low.1 lows (unions_more found c ds b low.0 lows has))

  pub sum_value : (x y : Products) (a b : Bool) → HasValue x p a → HasValue y p b → HasValue (sum_of x y) p (a || b)
  sum_value None y a b first second = tt
  sum_value (Some xs) None a b first second = tt
  sum_value (Some xs) (Some ys) a b first second =
      subst (λ v. HasValue (insert_all (Some xs) ys) p (a || v)) second.1 (all_more (Some xs) ys a second.0 first)

  pub product_value : (x y : Products) (a b : Bool) → HasValue x p a → HasValue y p b → HasValue (product_of x y) p (a && b)
  product_value None y a b first second = tt
  product_value (Some xs) None a b first second = tt
  product_value (Some xs) (Some ys) a b first second =
      rw (← first.1, ← second.1) (products_more (Some []) xs ys false first.0 second.0 (tt, refl))
