-- A pool that grows twice (for the tests).
use Rattle.std.proofs.Common.{◌≡◌, ℕ, ◌-◌, ◌≤◌, List, ◌++◌, length, take, drop, slice_range, sym, ap, ◌∙◌, arith}
use Rattle.covers.proofs.Common.{take-take, take-append-drop, drop-append-le, length-drop, All-append, Cube, AsksBelow, AllAskBelow, CoversList}
use Rattle.covers.proofs.ExpandedRows.{kept_long, rows_so_far}
use Rattle.covers.proofs.RowsOthers.{take_covers}

pub grown_kept : (a b c : List Cube) → take (length a) b ≡ a → take (length b) c ≡ b → take (length a) c ≡ a
grown_kept a b c one two = sym (take-take (length a) (length b) c (kept_long a b one)) ∙ ap (λ (xs : List Cube). take (length a) xs) two ∙ one

pub grown_below : (vars : ℕ) (a b c : List Cube) → take (length a) b ≡ a → take (length b) c ≡ b → AllAskBelow vars (drop (length a) b) → AllAskBelow vars (drop (length b) c) → AllAskBelow vars (drop (length a) c)
grown_below vars a b c one two first second =
    let whole : c ≡ b ++ drop (length b) c = sym (take-append-drop (length b) c) ∙ ap (λ (xs : List Cube). xs ++ drop (length b) c) two in
    let parts : drop (length a) c ≡ drop (length a) b ++ drop (length b) c = ap (λ (xs : List Cube). drop (length a) xs) whole ∙ drop-append-le (length a) b (drop (length b) c) (kept_long a b one) in
    rw parts (All-append (AsksBelow vars) (drop (length a) b) (drop (length b) c) first second)

-- the first of two ranges that begin together lies in the second as a set of points
pub front_inside : (cubes : List Cube) (from middle to vars : ℕ) → from ≤ middle → middle ≤ to → to ≡ length cubes → CoversList (slice_range cubes from to) (slice_range cubes from middle) vars
front_inside cubes from middle to vars le lt is = λ p len has.
    let long = length-drop from cubes in
    rw (rows_so_far cubes from to is) (take_covers (drop from cubes) (middle - from) p (omega (arith, long, le, lt, is)) has)
