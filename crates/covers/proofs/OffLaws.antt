-- Off cubes: a cube with a point of one is not allowed, and if they are complete, one without is.
use Rattle.std.proofs.Common.{◌≡◌, ℕ, ◌≤◌, Bool, true, false, not, inl, inr, List, [], ◌∷◌, ◌++◌, length, sym, ◌∙◌, arith, All}
use Rattle.covers.proofs.Common.{list_any, and_from, and_parts, not-true, not-false, or_cases, or_parts, All-head, All-tail, list_any-append, bits, length-bits, Cube, has_point, covers, is_empty, meets, union, AsksBelow, AllAskBelow, CoversAll, CoversCube, IsApart}
use Rattle.covers.proofs.CubeBits.{single_each}
use Rattle.covers.proofs.CubePoints.{apart, empty_has_none, union_points}
use Rattle.covers.proofs.MovedPoints.{length-moved, moved, moved_has}
use Rattle.covers.proofs.CommonPoints.{union_below}

-- ---- an off cube and the allowed ones

not_allowed : (d : Cube) (allowed : List Cube) (p : List Bool) → length p ≤ 32 → AsksBelow (length p) d → IsApart allowed d → has_point d p ≡ true → covers allowed p ≡ true → ⊥
not_allowed d [] p few below never own has = absurd cc
not_allowed d (c ∷ cubes) p few below never own has =
    let parts = or_parts (meets d c) (list_any (meets d) cubes) never in
    elim (or_cases (has_point c p) (covers cubes p) has) [
      | inl here ↦ apart d c p few below parts.0 own here
      | inr later ↦ not_allowed d cubes p few below parts.1 own later
    ]

-- a point of two cubes whose literals are not opposite
common_point : (d c : Cube) (vars : ℕ) → vars ≤ 22 → is_empty (union d c) ≡ false → (p : List Bool) × (length p ≡ vars) × (has_point d p ≡ true) × (has_point c p ≡ true)
common_point d c vars few some =
    let both = union d c in
    let p = moved both (bits vars 0) in
    let has = moved_has both (bits vars 0) (omega (arith, length-bits vars 0, few)) (λ v lt. single_each both some v) in
    let parts = and_parts (has_point d p) (has_point c p) (sym (union_points d c p) ∙ has) in
    (p, length-moved both (bits vars 0) ∙ length-bits vars 0, parts.0, parts.1)

-- the cube has a point of an off cube
abbrev pub has_off : List Cube → Cube → Bool
has_off off c = list_any (λ d. not (is_empty (union d c))) off

pub off_point : (allowed off : List Cube) (c : Cube) (vars : ℕ) → vars ≤ 22 → All (IsApart allowed) off → AllAskBelow vars off → has_off off c ≡ true → CoversCube allowed c vars → ⊥
off_point allowed [] c vars few apart-all below any all = absurd cc
off_point allowed (d ∷ off) c vars few apart-all below any all =
    elim (or_cases (not (is_empty (union d c))) (has_off off c) any) [
      | inl here ↦
          let q = common_point d c vars few (not-true (is_empty (union d c)) here) in
          not_allowed d allowed q.0 (omega (arith, q.1, few)) (rw q.1 (All-head (AsksBelow vars) d off below)) (All-head (IsApart allowed) d off apart-all) q.2 (all q.0 q.1 q.3)
      | inr later ↦ off_point allowed off c vars few (All-tail (IsApart allowed) d off apart-all) (All-tail (AsksBelow vars) d off below) later all
    ]

-- ---- off cubes that are complete

not_off : (off : List Cube) (c : Cube) (p : List Bool) → length p ≤ 32 → AllAskBelow (length p) off → AsksBelow (length p) c → has_off off c ≡ false → has_point c p ≡ true → covers off p ≡ true → ⊥
not_off [] c p few below own none has is = absurd cc
not_off (d ∷ off) c p few below own none has is =
    let parts = or_parts (not (is_empty (union d c))) (has_off off c) none in
    elim (or_cases (has_point d p) (covers off p) is) [
      | inl here ↦
          empty_has_none (union d c) p few (union_below (length p) d c (All-head (AsksBelow (length p)) d off below) own) (not-false (is_empty (union d c)) parts.0)
          (union_points d c p ∙ and_from (has_point d p) (has_point c p) here has)
      | inr later ↦ not_off off c p few (All-tail (AsksBelow (length p)) d off below) own parts.1 has later
    ]

pub off_all : (allowed off : List Cube) (c : Cube) (vars : ℕ) → vars ≤ 22 → AllAskBelow vars off → AsksBelow vars c → has_off off c ≡ false → CoversAll (allowed ++ off) vars → CoversCube allowed c vars
off_all allowed off c vars few below own none all = λ p len has.
    elim (or_cases (covers allowed p) (covers off p) (sym (list_any-append (λ d. has_point d p) allowed off) ∙ all p len)) [
      | inl here ↦ here
      | inr later ↦ absurd (not_off off c p (omega (arith, len, few)) (rw len below) (rw len own) none has later)
    ]
