-- With the cells of smaller room it is the whole.
use Rattle.std.proofs.Common.{◌≡◌, ◌++◌}
use Rattle.placer.proofs.Common.{large_cells, large_to}
use Rattle.placer.proofs.preferring.large_cells.Given as goal

abbrev pub decreases-rooms : goal.decreases-rooms
decreases-rooms g l = l.room

abbrev pub invariant-rooms : goal.invariant-rooms
invariant-rooms g l = l.list.items ++ large_to g.D.Device.table l.room ≡ large_cells g.D.Device.table
