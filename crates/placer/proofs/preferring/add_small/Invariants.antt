-- The rooms so far.
use Rattle.std.proofs.Common.{◌≡◌, ◌++◌}
use Rattle.placer.proofs.Common.{small_to}
use Rattle.placer.proofs.preferring.add_small.Given as goal

abbrev pub invariant-loop-room : goal.invariant-loop-room
invariant-loop-room g l = l.list.items ≡ l.fn.list.items ++ small_to g.D.Device.table l.room
