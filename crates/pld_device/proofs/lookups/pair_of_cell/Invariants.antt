-- None of the pairs so far is of the cell.
use Rattle.std.proofs.Common.{◌≡◌, drop, position}
use Rattle.pld_device.proofs.Common.{position_from, carries_cell}
use Rattle.pld_device.proofs.lookups.pair_of_cell.Given as goal

abbrev pub invariant-loop-pair : goal.invariant-loop-pair
invariant-loop-pair g l =
    position (carries_cell l.cell) g.D.Device.table.pairs
    ≡ position_from (carries_cell l.cell) l.pair (drop l.pair g.D.Device.table.pairs)
