-- Rows that are expanded one after another, at the end of a pool.
use Rattle.std.proofs.Common.{◌≡◌, ℕ, ◌+◌, ◌-◌, ◌<◌, ◌≤◌, Bool, true, false, ◌⊎◌, inl, inr, List, [], ◌∷◌, ◌++◌, length, get_or, take, drop, Some, slice_get, slice_range, sym, ap, ◌∙◌, arith}
use Rattle.covers.proofs.Common.{list_any, or_cases, or_left, or_right, get_or_from_slice_get, take-take, take-append-le, drop-append-le, length-take, drop_all, get_or-take, length-append, between_is, between_to_end, All-push, All-nil, All-get_or, between_none, between_more, length-between, get_or-between, list_any-append, list_any_at, Cube, has_point, covers, full_cube, lies_in, AsksBelow, AllAskBelow, Grows, CoversCube, CoversList, IsPrime, IsExpanded}
use Rattle.covers.proofs.CubePoints.{has_point_grows, lies_in_points}

-- ---- what is below the rows

-- a range of the old cubes is as before
pub slice_kept : (old new : List Cube) (a b : ℕ) → take (length old) new ≡ old → b ≤ length old → slice_range new a b ≡ slice_range old a b
slice_kept old new a b kept within =
    between_is new a b ∙ ap (λ (xs : List Cube). drop a xs) (sym (take-take b (length old) new within) ∙ ap (λ (xs : List Cube). take b xs) kept) ∙ sym (between_is old a b)

pub kept_long : (old new : List Cube) → take (length old) new ≡ old → length old ≤ length new
kept_long old new kept = let e : length (take (length old) new) ≡ length old = ap length kept in let f = length-take (length old) new in omega (arith, e, f)

-- a cube of the old list
pub cube_kept : (old new : List Cube) (place : ℕ) (c : Cube) → take (length old) new ≡ old → place < length old → slice_get new place ≡ Some c → get_or old place full_cube ≡ c
cube_kept old new place c kept lt read =
    ap (λ (xs : List Cube). get_or xs place full_cube) (sym kept) ∙ get_or-take (length old) new place full_cube lt ∙ get_or_from_slice_get new place c full_cube read

pub push_kept : (old new : List Cube) (c : Cube) → take (length old) new ≡ old → take (length old) (new ++ c ∷ []) ≡ old
push_kept old new c kept = take-append-le (length old) new (c ∷ []) (kept_long old new kept) ∙ kept

pub push_rows : (old new : List Cube) (c : Cube) → take (length old) new ≡ old → drop (length old) (new ++ c ∷ []) ≡ drop (length old) new ++ c ∷ []
push_rows old new c kept = drop-append-le (length old) new (c ∷ []) (kept_long old new kept)

-- ---- one cube of a range

pub at_below : (vars from to place : ℕ) (cubes : List Cube) (c : Cube) → from ≤ place → place < to → to ≤ length cubes → AllAskBelow vars (slice_range cubes from to) → get_or cubes place full_cube ≡ c → AsksBelow vars c
at_below vars from to place cubes c le lt within below is =
    let e = get_or-between cubes from to (place - from) full_cube (omega arith) in
    let same : from + (place - from) ≡ place = omega arith in
    let here = All-get_or (AsksBelow vars) (slice_range cubes from to) (place - from) full_cube (omega (arith, length-between cubes from to within)) below in
    rw (e, same, is) at here

pub at_inside : (vars from to place : ℕ) (allowed cubes : List Cube) (c : Cube) → from ≤ place → place < to → to ≤ length cubes → CoversList allowed (slice_range cubes from to) vars → get_or cubes place full_cube ≡ c → CoversCube allowed c vars
at_inside vars from to place allowed cubes c le lt within inside is = λ p len has.
    let e = get_or-between cubes from to (place - from) full_cube (omega arith) in
    let same : from + (place - from) ≡ place = omega arith in
    let here : get_or (slice_range cubes from to) (place - from) full_cube ≡ c = e ∙ ap (λ n. get_or cubes n full_cube) same ∙ is in
    inside p len (list_any_at (λ d. has_point d p) (slice_range cubes from to) (place - from) full_cube (omega (arith, length-between cubes from to within)) (rw here has))

-- ---- one row more

pub push_cases : (xs : List Cube) (c : Cube) (p : List Bool) → covers (xs ++ c ∷ []) p ≡ true → (covers xs p ≡ true) ⊎ (has_point c p ≡ true)
push_cases xs c p is =
    elim (or_cases (covers xs p) (covers (c ∷ []) p) (sym (list_any-append (λ d. has_point d p) xs (c ∷ [])) ∙ is)) [
      | inl first ↦ inl first
      | inr last ↦ elim (or_cases (has_point c p) false last) [ inl here ↦ inr here | inr never ↦ absurd cc ]
    ]

pub push_first : (xs : List Cube) (c : Cube) (p : List Bool) → covers xs p ≡ true → covers (xs ++ c ∷ []) p ≡ true
push_first xs c p is = list_any-append (λ d. has_point d p) xs (c ∷ []) ∙ or_left (covers xs p) (covers (c ∷ []) p) is

pub push_last : (xs : List Cube) (c : Cube) (p : List Bool) → has_point c p ≡ true → covers (xs ++ c ∷ []) p ≡ true
push_last xs c p is = list_any-append (λ d. has_point d p) xs (c ∷ []) ∙ or_right (covers xs p) (covers (c ∷ []) p) (or_left (has_point c p) false is)

pub expanded_none : (allowed cubes old : List Cube) (vars from : ℕ) → IsExpanded allowed (slice_range cubes from from) vars (drop (length old) old)
expanded_none allowed cubes old vars from =
    let none : drop (length old) old ≡ [] = drop_all (length old) old (omega arith) in
    rw (between_none cubes from, none) (record {
      at_needed = λ p len is. is;
      at_allowed = λ p len is. absurd cc;
      prime = All-nil (IsPrime allowed vars);
      below = All-nil (AsksBelow vars);
      few = omega arith;
    })

pub expanded_more : (allowed cubes rows : List Cube) (vars from place : ℕ) (c d : Cube) → from ≤ place → place < length cubes → get_or cubes place full_cube ≡ c
    → IsExpanded allowed (slice_range cubes from place) vars rows
    → CoversCube allowed d vars → Grows vars c d → IsPrime allowed vars d → AsksBelow vars d
    → IsExpanded allowed (slice_range cubes from (place + 1)) vars (rows ++ d ∷ [])
expanded_more allowed cubes rows vars from place c d le lt is so_far inside grows prime below =
    let done = slice_range cubes from place in
    let more : slice_range cubes from (place + 1) ≡ done ++ c ∷ [] = between_more cubes from place full_cube le lt ∙ ap (λ (e : Cube). done ++ e ∷ []) is in
    record {
      at_needed = λ p len has. elim (push_cases done c p (rw more at has)) [
        | inl before ↦ push_first rows d p (so_far.at_needed p len before)
        | inr here ↦ push_last rows d p (has_point_grows c d p (rw len grows) here)
      ];
      at_allowed = λ p len has. elim (push_cases rows d p has) [
        | inl before ↦ so_far.at_allowed p len before
        | inr here ↦ inside p len here
      ];
      prime = All-push (IsPrime allowed vars) rows d so_far.prime prime;
      below = All-push (AsksBelow vars) rows d so_far.below below;
      few = rw more (omega (arith, length-append rows (d ∷ []), length-append done (c ∷ []), so_far.few));
    }

-- a needed cube that lies in a row

pub lies_in_row : (c : Cube) (rows : List Cube) (p : List Bool) → list_any (lies_in c) rows ≡ true → has_point c p ≡ true → covers rows p ≡ true
lies_in_row c [] p any has = absurd cc
lies_in_row c (d ∷ rows) p any has =
    elim (or_cases (lies_in c d) (list_any (lies_in c) rows) any) [
      | inl here ↦ or_left (has_point d p) (covers rows p) (lies_in_points c d p here has)
      | inr later ↦ or_right (has_point d p) (covers rows p) (lies_in_row c rows p later has)
    ]

pub expanded_skip : (allowed cubes rows : List Cube) (vars from place : ℕ) (c : Cube) → from ≤ place → place < length cubes → get_or cubes place full_cube ≡ c
    → IsExpanded allowed (slice_range cubes from place) vars rows → list_any (lies_in c) rows ≡ true
    → IsExpanded allowed (slice_range cubes from (place + 1)) vars rows
expanded_skip allowed cubes rows vars from place c le lt is so_far inside =
    let done = slice_range cubes from place in
    let more : slice_range cubes from (place + 1) ≡ done ++ c ∷ [] = between_more cubes from place full_cube le lt ∙ ap (λ (e : Cube). done ++ e ∷ []) is in
    record {
      at_needed = λ p len has. elim (push_cases done c p (rw more at has)) [
        | inl before ↦ so_far.at_needed p len before
        | inr here ↦ lies_in_row c rows p inside here
      ];
      at_allowed = so_far.at_allowed;
      prime = so_far.prime;
      below = so_far.below;
      few = rw more (omega (arith, length-append done (c ∷ []), so_far.few));
    }

-- the rows so far, as a range of the pool
pub rows_so_far : (cubes : List Cube) (from to : ℕ) → to ≡ length cubes → slice_range cubes from to ≡ drop from cubes
rows_so_far cubes from to is = rw is (between_to_end cubes from (length cubes) (omega arith))
