-- Rows that move down in a pool, and rows that are copied to its end.
use Rattle.std.proofs.Common.{◌≡◌, ℕ, ◌+◌, ◌<◌, ◌≤◌, inl, inr, List, [], ◌∷◌, ◌++◌, length, get_or, set, take, drop, Some, slice_get, slice_range, refl, sym, ap, ◌∙◌, arith}
use Rattle.covers.proofs.Common.{swap, append_assoc, drop-drop, drop-set-lt, get_or-drop, get_or_append_left, length-drop, take_more, get_or_from_slice_get, between_more, length-swap, swap_is, Cube, full_cube}
use Rattle.covers.proofs.LeftOut.{take-swap}
use Rattle.covers.proofs.RowsOthers.{exchange_case, exchanged, get_or-swap}

-- the first of two places has what the second had
swapped_first : (cubes : List Cube) (i j : ℕ) → i < length cubes → j < length cubes → get_or (swap cubes i j) i full_cube ≡ get_or cubes j full_cube
swapped_first cubes i j li lj =
    let first : exchanged i j i ≡ j = elim (exchange_case i j i) [ inl a ↦ a.1 | inr (inl b) ↦ absurd (b.0 refl) | inr (inr d) ↦ absurd (d.0 refl) ] in
    get_or-swap cubes i j i li lj li ∙ ap (λ n. get_or cubes n full_cube) first

drop-swap-past : (cubes : List Cube) (n i j : ℕ) → i < n → j < n → i < length cubes → j < length cubes → drop n (swap cubes i j) ≡ drop n cubes
drop-swap-past cubes n i j before-i before-j li lj =
    ap (λ (xs : List Cube). drop n xs) (sym (swap_is cubes i j full_cube li lj))
    ∙ drop-set-lt n (set cubes i (get_or cubes j full_cube)) j (get_or cubes i full_cube) before-j
    ∙ drop-set-lt n cubes i (get_or cubes j full_cube) before-i

-- one more row has moved
pub front_more : (old cubes : List Cube) (place from step : ℕ) → place ≤ from → from + step < length old → length cubes ≡ length old
    → take (place + step) cubes ≡ take place old ++ take step (drop from old)
    → drop (from + step) cubes ≡ drop (from + step) old
    → take (place + (step + 1)) (swap cubes (place + step) (from + step)) ≡ take place old ++ take (step + 1) (drop from old)
front_more old cubes place from step le lt long front tail =
    let i = place + step in
    let j = from + step in
    let li : i < length cubes = omega (arith, le, lt, long) in
    let lj : j < length cubes = omega (arith, lt, long) in
    let next : place + (step + 1) ≡ i + 1 = omega arith in
    let rows = drop from old in
    let row : get_or (swap cubes i j) i full_cube ≡ get_or rows step full_cube =
    swapped_first cubes i j li lj
    ∙ (let e : get_or (drop j cubes) 0 full_cube ≡ get_or cubes (j + 0) full_cube = get_or-drop j cubes 0 full_cube in let same : j + 0 ≡ j = omega arith in sym (rw same at e))
    ∙ ap (λ (xs : List Cube). get_or xs 0 full_cube) tail
    ∙ (let e : get_or (drop j old) 0 full_cube ≡ get_or old (j + 0) full_cube = get_or-drop j old 0 full_cube in let same : j + 0 ≡ j = omega arith in rw same at e)
    ∙ sym (get_or-drop from old step full_cube) in
    ap (λ n. take n (swap cubes i j)) next
    ∙ take_more (swap cubes i j) i full_cube (omega (arith, li, length-swap cubes i j))
    ∙ ap (λ (xs : List Cube). xs ++ get_or (swap cubes i j) i full_cube ∷ []) (take-swap cubes i i j (omega arith) (omega (arith, le)) li lj ∙ front)
    ∙ ap (λ (r : Cube). (take place old ++ take step rows) ++ r ∷ []) row
    ∙ append_assoc (take place old) (take step rows) (get_or rows step full_cube ∷ [])
    ∙ ap (λ (xs : List Cube). take place old ++ xs) (sym (take_more rows step full_cube (omega (arith, lt, length-drop from old))))

pub tail_more : (old cubes : List Cube) (place from step : ℕ) → place ≤ from → from + step < length old → length cubes ≡ length old
    → drop (from + step) cubes ≡ drop (from + step) old
    → drop (from + (step + 1)) (swap cubes (place + step) (from + step)) ≡ drop (from + (step + 1)) old
tail_more old cubes place from step le lt long tail =
    let next : from + (step + 1) ≡ from + step + 1 = omega arith in
    ap (λ n. drop n (swap cubes (place + step) (from + step))) next
    ∙ drop-swap-past cubes (from + step + 1) (place + step) (from + step) (omega (arith, le)) (omega arith) (omega (arith, le, lt, long)) (omega (arith, lt, long))
    ∙ sym (drop-drop 1 (from + step) cubes)
    ∙ ap (λ (xs : List Cube). drop 1 xs) tail
    ∙ drop-drop 1 (from + step) old
    ∙ ap (λ n. drop n old) (sym next)

-- one more row is copied
pub copy_more : (old now : List Cube) (from place : ℕ) (c : Cube) → from ≤ place → place < length old → now ≡ old ++ slice_range old from place → slice_get now place ≡ Some c
    → now ++ c ∷ [] ≡ old ++ slice_range old from (place + 1)
copy_more old now from place c le lt is read =
    let done = slice_range old from place in
    let there : get_or old place full_cube ≡ c = sym (get_or_append_left old done full_cube place lt) ∙ ap (λ (xs : List Cube). get_or xs place full_cube) (sym is) ∙ get_or_from_slice_get now place c full_cube read in
    let more : slice_range old from (place + 1) ≡ done ++ c ∷ [] = between_more old from place full_cube le lt ∙ ap (λ (d : Cube). done ++ d ∷ []) there in
    rw (is, more) (append_assoc old done (c ∷ []))
