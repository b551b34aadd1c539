use Rattle.std.proofs.Common.{◌≡◌, take}
use Rattle.pld_device.specs.Table.{registered_by_cell}
use Rattle.pld_device.proofs.loading.registered_of.Given as goal

abbrev pub invariant-loop-cell : goal.invariant-loop-cell
invariant-loop-cell g l = l.bits.items ≡ take l.cell (registered_by_cell (g.P.Part.table l.part))
