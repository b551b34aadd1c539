-- Those of the names so far.
use Rattle.std.proofs.Common.{◌≡◌, map, take}
use Rattle.placer.proofs.Common.{view_declared, to_place}
use Rattle.placer.proofs.needing.to_place.Given as goal

abbrev pub invariant-loop-number : goal.invariant-loop-number
invariant-loop-number g l = l.signals.items ≡ take 32 (to_place g.D.Device.table (map view_declared (take l.number l.names)))
