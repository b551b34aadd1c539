-- What is found of the rows that are left is found of all.
use Rattle.std.proofs.Common.{◌≡◌, ℕ, ◌+◌, ◌-◌, drop, map}
use Rattle.abel_vectors.proofs.Common.{view_vector_row, context_for, Found, FindsRows}
use Rattle.abel_vectors.proofs.rows.read_rows.Given as goal

abbrev pub invariant-loop-index : goal.invariant-loop-index
invariant-loop-index g l =
    let d = context_for g.D.Device.table l.on.scope.now in
    (before : ℕ) → l.room ≡ 9999 - before → (later : Found) → FindsRows d (l.index + before) l.header (map view_vector_row (drop l.index l.rows)) l.found later
    → FindsRows d before l.header (map view_vector_row l.rows) l.initial.found later
