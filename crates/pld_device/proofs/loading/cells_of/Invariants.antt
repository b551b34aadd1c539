use Rattle.std.proofs.Common.{◌≡◌, take}
use Rattle.pld_device.proofs.loading.cells_of.Given as goal

abbrev pub invariant-loop-index : goal.invariant-loop-index
invariant-loop-index g l = l.cells.items ≡ take l.index (g.P.Part.table l.part).cells
