-- The cells so far have their rows, and the covers of the others are left.
use Rattle.std.proofs.Common.{◌≡◌, ◌≤◌, ℕ, None, get_or, length}
use Rattle.fitter.proofs.Common.{RowsBelow}
use Rattle.fitter.proofs.planning.plan_cells.Given as goal

abbrev pub invariant-loop-cell : goal.invariant-loop-cell
invariant-loop-cell g l = record {
  rows : RowsBelow g.D.Device.table l.fn.covers.items l.cell l.plans.items l.forms.items;
  long : length l.left.items ≡ length g.D.Device.table.cells;
  left : (d : ℕ) → l.cell ≤ d → get_or l.left.items d None ≡ get_or l.fn.covers.items d None;
}
