-- No cell before has the row.
use Rattle.std.proofs.Common.{ℕ, ◌<◌}
use Rattle.design_drawings.specs.CellRows.{IsRowOf}
use Rattle.design_drawings.proofs.rows.cell_of_row.Given as goal

abbrev pub invariant-loop-cell : goal.invariant-loop-cell
invariant-loop-cell g l = (d : ℕ) → d < l.cell → IsRowOf g.D.Device.table d l.row → ⊥
