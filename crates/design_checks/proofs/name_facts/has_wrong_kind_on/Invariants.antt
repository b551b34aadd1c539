-- None of the cells so far is it.
use Rattle.std.proofs.Common.{◌≡◌, drop}
use Rattle.design_checks.proofs.Common.{list_any, is_wrong_cell}
use Rattle.design_checks.proofs.name_facts.has_wrong_kind_on.Given as goal

abbrev pub invariant-loop-index : goal.invariant-loop-index
invariant-loop-index g l =
    list_any (is_wrong_cell l.pin l.stored) g.D.Device.table.cells
    ≡ list_any (is_wrong_cell l.pin l.stored) (drop l.index g.D.Device.table.cells)
