-- Texts and literals that are joined one after another, and names that are looked for.
use Rattle.std.proofs.Common.{◌≡◌, ℕ, ◌+◌, ◌<◌, ◌≤◌, Some, None, length, drop, map, get_or, drop-cons, add-one, Bool, true, false, if◌then◌else◌, List, [], ◌∷◌, ◌++◌, filter, flat_map, refl, ap, sym, ◌∙◌, append_assoc, append-nil, map-id, codes}
use Rattle.fuse_listing.proofs.Common.{zero-add, flat_map-append, drop_all, range_with_len, Declared, view_declared, is_on_pin, name_on, product_text}
use Rattle.std.proofs.lemmas.List.FromFn.{filter_of_map_range_with_len_more, map-range_with_len_more}

-- a piece more after what was appended
pub one_more : (old sofar piece before new : List ℕ) → before ≡ old ++ sofar → new ≡ before ++ piece → new ≡ old ++ (sofar ++ piece)
one_more old sofar piece before new before_is new_is =
    new_is ∙ ap (λ (text : List ℕ). text ++ piece) before_is ∙ append_assoc old sofar piece

-- literals joined, none as no text
abbrev pub joined : (ℕ → List ℕ) → List ℕ → List ℕ
joined literal [] = []
joined literal (first ∷ rest) = literal first ++ flat_map (λ k. codes " & " ++ literal k) rest

abbrev pub is_none : List ℕ → Bool
is_none [] = true
is_none (k ∷ ks) = false

-- the columns up to this one that pass are joined after a text
pub record HasJoined (literal : ℕ → List ℕ) (passes : ℕ → Bool) (before text : List ℕ) (is_first : Bool) (column : ℕ) : Type 0 where
  pub text_is : text ≡ before ++ joined literal (filter passes (range_with_len 0 column))
  pub first_is : is_first ≡ is_none (filter passes (range_with_len 0 column))

-- what is between a literal and those before it
abbrev pub between : Bool → List ℕ
between is_first = if is_first then [] else codes " & "

-- one more literal after those that there are
joined-more : (literal : ℕ → List ℕ) (ks : List ℕ) (k : ℕ) → joined literal (ks ++ k ∷ []) ≡ joined literal ks ++ between (is_none ks) ++ literal k
joined-more literal [] k = append-nil (literal k)
joined-more literal (first ∷ rest) k =
    rw (flat_map-append (λ j. codes " & " ++ literal j) rest (k ∷ []), append-nil (codes " & " ++ literal k))
    (sym (append_assoc (literal first) (flat_map (λ j. codes " & " ++ literal j) rest) (codes " & " ++ literal k))
    ∙ sym (append_assoc (joined literal (first ∷ rest)) (codes " & ") (literal k)))

is_none-more : (ks : List ℕ) (k : ℕ) → is_none (ks ++ k ∷ []) ≡ false
is_none-more [] k = refl
is_none-more (first ∷ rest) k = refl

-- the columns that pass up to the next one
range_more : (passes : ℕ → Bool) (c : ℕ) → filter passes (range_with_len 0 (c + 1)) ≡ filter passes (range_with_len 0 c) ++ (if passes c then c ∷ [] else [])
range_more passes c =
    rw (← map-id (range_with_len 0 (c + 1)), ← map-id (range_with_len 0 c)) (filter_of_map_range_with_len_more passes (λ k. k) 0 c c (zero-add c))

module _ (literal : ℕ → List ℕ) (passes : ℕ → Bool) (before : List ℕ) where
  pub none_joined : HasJoined literal passes before before true 0
  none_joined = record { text_is = sym (append-nil before); first_is = refl }

  pub one_joined : (text : List ℕ) (is_first : Bool) (c : ℕ) → HasJoined literal passes before text is_first c → passes c ≡ true → HasJoined literal passes before (text ++ between is_first ++ literal c) false (c + 1)
  one_joined text is_first c has pass =
      let ks = filter passes (range_with_len 0 c) in
      let longer : filter passes (range_with_len 0 (c + 1)) ≡ ks ++ c ∷ [] = range_more passes c ∙ (rw pass refl) in
      record {
        text_is =
            rw (has.text_is, has.first_is, longer, joined-more literal ks c)
            (ap (λ xs. xs ++ literal c) (append_assoc before (joined literal ks) (between (is_none ks)))
            ∙ append_assoc before (joined literal ks ++ between (is_none ks)) (literal c));
        first_is = rw longer (sym (is_none-more ks c));
      }

  pub one_passed : (text : List ℕ) (is_first : Bool) (c : ℕ) → HasJoined literal passes before text is_first c → passes c ≡ false → HasJoined literal passes before text is_first (c + 1)
  one_passed text is_first c has fail =
      let ks = filter passes (range_with_len 0 c) in
      let same : filter passes (range_with_len 0 (c + 1)) ≡ ks = range_more passes c ∙ (rw fail (append-nil ks)) in
      record { text_is = rw same has.text_is; first_is = rw same has.first_is }

  -- with `1` if there isn't one, it is the product
  pub all_joined : (text : List ℕ) (is_first : Bool) (c : ℕ) → HasJoined literal passes before text is_first c → (if is_first then text ++ codes "1" else text) ≡ before ++ product_text literal (filter passes (range_with_len 0 c))
  all_joined text is_first c has = by_list (filter passes (range_with_len 0 c)) is_first has.first_is has.text_is
    where
      by_list : (ks : List ℕ) (first : Bool) → first ≡ is_none ks → text ≡ before ++ joined literal ks → (if first then text ++ codes "1" else text) ≡ before ++ product_text literal ks
      by_list [] first is text_is = rw (is, text_is) (ap (λ xs. xs ++ codes "1") (append-nil before))
      by_list (k ∷ ks) first is text_is = rw is text_is

-- ---- names

module _ (pin : ℕ) (items ds : List Declared) (same : items ≡ ds) (i : ℕ) (d : Declared) (within : i < length items) (is : d ≡ get_or items i d) where
  -- a name that isn't on the pin is passed
  pub next_name : is_on_pin pin (view_declared d).kind ≡ false → name_on (map view_declared (drop i ds)) pin ≡ name_on (map view_declared (drop (i + 1) ds)) pin
  next_name fails = rw (← same, add-one i, drop-cons items i d within, ← is) (rw fails refl)

  pub found_name : is_on_pin pin (view_declared d).kind ≡ true → name_on (map view_declared (drop i ds)) pin ≡ Some (view_declared d)
  found_name passes = rw (← same, drop-cons items i d within, ← is) (rw passes refl)

pub no_name_left : (pin : ℕ) (items ds : List Declared) (i : ℕ) → items ≡ ds → length items ≤ i → name_on (map view_declared (drop i ds)) pin ≡ None
no_name_left pin items ds i same end = rw (← same, drop_all i items end) refl

-- ---- rows

-- a row more of a cell
pub next_row : (text : ℕ → List ℕ) (before : List ℕ) (first n : ℕ) → before ++ flat_map text (range_with_len first n) ++ text (first + n) ≡ before ++ flat_map text (range_with_len first (n + 1))
next_row text before first n =
    append_assoc before (flat_map text (range_with_len first n)) (text (first + n))
    ∙ ap (λ xs. before ++ xs) (sym (longer ∙ flat_map-append text (range_with_len first n) ((first + n) ∷ []) ∙ ap (λ xs. flat_map text (range_with_len first n) ++ xs) (append-nil (text (first + n)))))
  where
    range_longer : range_with_len first (n + 1) ≡ range_with_len first n ++ (first + n) ∷ []
    range_longer = sym (map-id (range_with_len first (n + 1))) ∙ (map-range_with_len_more (λ k. k) first n (first + n) refl ∙ ap (λ xs. xs ++ (first + n) ∷ []) (map-id (range_with_len first n)))

    longer : flat_map text (range_with_len first (n + 1)) ≡ flat_map text (range_with_len first n ++ (first + n) ∷ [])
    longer = ap (λ ks. flat_map text ks) range_longer

pub next_row_at : (text : ℕ → List ℕ) (before : List ℕ) (first n k : ℕ) → k ≡ n → before ++ flat_map text (range_with_len first n) ++ text (first + k) ≡ before ++ flat_map text (range_with_len first (n + 1))
next_row_at text before first n k is = rw is (next_row text before first n)

-- a cell more of the device
pub next_cell : (text : ℕ → List ℕ) (before : List ℕ) (n : ℕ) → before ++ flat_map text (range_with_len 0 n) ++ text n ≡ before ++ flat_map text (range_with_len 0 (n + 1))
next_cell text before n = ap (λ k. before ++ flat_map text (range_with_len 0 n) ++ text k) (sym (zero-add n)) ∙ next_row text before 0 n
