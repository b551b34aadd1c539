use Rattle.std.proofs.Common.{◌≡◌, map}
use Rattle.std.specs.List.{range_with_len}
use Rattle.abel_tree.specs.Entries.{entries_of}
use Rattle.page_model.specs.Cells.{cell_facts}
use Rattle.page_model.proofs.model.cells_of.Given as goal

abbrev pub invariant-loop-cell : goal.invariant-loop-cell
invariant-loop-cell g l = l.cells.items ≡ map (cell_facts g.D.Device.table l.array (entries_of l.names)) (range_with_len 0 l.cell)
