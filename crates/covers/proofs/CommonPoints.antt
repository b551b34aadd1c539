-- The points that a cube has in common with another, and with those of a list.
use Rattle.std.proofs.Common.{◌≡◌, ℕ, ◌+◌, ◌-◌, ◌<◌, ◌≤◌, Bool, true, false, inl, inr, List, [], ◌∷◌, ◌++◌, length, get_or, slice_range, refl, sym, ap, ◌∙◌, arith, IsTrue, ◌↔◌}
use Rattle.covers.proofs.Common.{list_any, and_from, and_parts, or_lt, between_none, between_more, length-between, get_or-between, list_any_at, Cube, has_point, full_cube, lies_in, meets, union, AsksBelow, CoversCube, CoversBoth, CoversCommon}
use Rattle.covers.proofs.CubePoints.{apart, union_points}
use Rattle.covers.proofs.ExpandedRows.{lies_in_row, push_cases}

-- cubes that don't meet have no point in common
pub apart_answer : (rows : List Cube) (c d : Cube) (vars : ℕ) (r : Bool) → vars ≤ 22 → AsksBelow vars c → r ≡ meets c d → r ≡ false → IsTrue true ↔ CoversBoth rows c d vars
apart_answer rows c d vars r few below is never =
    (λ _ p len first second. absurd (apart c d p (omega (arith, len, few)) (rw len below) (sym is ∙ never) first second), λ all. refl)

-- those of cubes that do are the union's
pub union_answer : (rows : List Cube) (c d e : Cube) (vars : ℕ) (r : Bool) → e ≡ union c d → IsTrue r ↔ CoversCube rows e vars → IsTrue r ↔ CoversBoth rows c d vars
union_answer rows c d e vars r is answer = (
  λ yes-is p len first second. (answer.0 yes-is) p len (rw (is, union_points c d p) (and_from (has_point c p) (has_point d p) first second)),
  λ all. answer.1 (λ p len both. let parts = and_parts (has_point c p) (has_point d p) (sym (union_points c d p) ∙ rw is at both) in all p len parts.0 parts.1),
)

-- the union lies in a row
pub row_answer : (rows : List Cube) (c d e : Cube) (vars : ℕ) → e ≡ union c d → list_any (lies_in e) rows ≡ true → IsTrue true ↔ CoversBoth rows c d vars
row_answer rows c d e vars is inside = (
  λ _ p len first second. lies_in_row e rows p inside (rw (is, union_points c d p) (and_from (has_point c p) (has_point d p) first second)),
  λ all. refl,
)

pub union_below : (vars : ℕ) (c d : Cube) → AsksBelow vars c → AsksBelow vars d → AsksBelow vars (union c d)
union_below vars c d first second = (or_lt vars c.yes d.yes first.0 second.0, or_lt vars c.no d.no first.1 second.1)

-- ---- a list of needed cubes, one after another

pub common_none : (rows cubes : List Cube) (from vars : ℕ) (cube : Cube) → CoversCommon rows (slice_range cubes from from) cube vars
common_none rows cubes from vars cube = rw (between_none cubes from) (λ p len never. absurd cc)

pub common_more : (rows cubes : List Cube) (from place vars : ℕ) (c cube : Cube) → from ≤ place → place < length cubes → get_or cubes place full_cube ≡ c
    → CoversCommon rows (slice_range cubes from place) cube vars → CoversBoth rows c cube vars → CoversCommon rows (slice_range cubes from (place + 1)) cube vars
common_more rows cubes from place vars c cube le lt is so_far both =
    let done = slice_range cubes from place in
    let more : slice_range cubes from (place + 1) ≡ done ++ c ∷ [] = between_more cubes from place full_cube le lt ∙ ap (λ (e : Cube). done ++ e ∷ []) is in
    λ p len has own. elim (push_cases done c p (rw more at has)) [
      | inl before ↦ so_far p len before own
      | inr here ↦ both p len here own
    ]

-- a needed cube that isn't covered
pub common_fails : (rows cubes : List Cube) (from to place vars : ℕ) (c cube : Cube) (r : Bool) → from ≤ place → place < to → to ≤ length cubes → get_or cubes place full_cube ≡ c
    → IsTrue r ↔ CoversBoth rows c cube vars → r ≡ false → IsTrue false ↔ CoversCommon rows (slice_range cubes from to) cube vars
common_fails rows cubes from to place vars c cube r le lt within is answer fails = (
  λ never. absurd cc,
  λ all. sym fails ∙ answer.1 (λ p len first second.
      let e = get_or-between cubes from to (place - from) full_cube (omega arith) in
      let same : from + (place - from) ≡ place = omega arith in
      let here : get_or (slice_range cubes from to) (place - from) full_cube ≡ c = e ∙ ap (λ n. get_or cubes n full_cube) same ∙ is in
      all p len (list_any_at (λ d. has_point d p) (slice_range cubes from to) (place - from) full_cube (omega (arith, length-between cubes from to within)) (rw here first)) second),
)
