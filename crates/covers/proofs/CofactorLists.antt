-- Cofactors of lists that grow: one more cube, read from a list that has grown since; and what was appended.
use Rattle.std.proofs.Common.{◌≡◌, ℕ, ◌+◌, ◌<◌, ◌≤◌, List, [], ◌∷◌, ◌++◌, length, get_or, Some, slice_get, slice_range, refl, sym, ap, ◌∙◌, append_assoc, arith}
use Rattle.covers.proofs.Common.{drop_at, map-append, get_or_append_left, between_to_end, get_or_from_slice_get, filter-append, between_more, Cube, cofactor_of}

cofactor_of-append : (by : Cube) (xs ys : List Cube) → cofactor_of by (xs ++ ys) ≡ cofactor_of by xs ++ cofactor_of by ys
cofactor_of-append by xs ys = rw (filter-append, map-append) refl

-- a cube at a place of the list is still there once more were appended
pub cube_there : (old new more : List Cube) (place : ℕ) (c : Cube) → place < length old → new ≡ old ++ more → slice_get new place ≡ Some c → get_or old place c ≡ c
cube_there old new more place c lt is read =
    sym (get_or_append_left old more c place lt) ∙ ap (λ (l : List Cube). get_or l place c) (sym is) ∙ get_or_from_slice_get new place c c read

pub cofactor_more : (by : Cube) (start now : List Cube) (from place : ℕ) (c : Cube)
    → from ≤ place → place < length start
    → now ≡ start ++ cofactor_of by (slice_range start from place)
    → slice_get now place ≡ Some c
    → now ++ cofactor_of by (c ∷ []) ≡ start ++ cofactor_of by (slice_range start from (place + 1))
cofactor_more by start now from place c le lt is read =
    let done = cofactor_of by (slice_range start from place) in
    let there = cube_there start now done place c lt is read in
    let one : slice_range start from (place + 1) ≡ slice_range start from place ++ c ∷ [] = between_more start from place c le lt ∙ ap (λ (d : Cube). slice_range start from place ++ d ∷ []) there in
    let more : cofactor_of by (slice_range start from (place + 1)) ≡ done ++ cofactor_of by (c ∷ []) = ap (cofactor_of by) one ∙ cofactor_of-append by (slice_range start from place) (c ∷ []) in
    rw (is, more) (append_assoc start done (cofactor_of by (c ∷ [])))

-- what was appended to a list
pub appended : (old new more : List Cube) (from to : ℕ) → new ≡ old ++ more → from ≡ length old → to ≡ length new → slice_range new from to ≡ more
appended old new more from to is start end =
    rw (end, start, between_to_end new (length old) (length new) (omega arith), is, drop_at old more (length old) refl) refl
