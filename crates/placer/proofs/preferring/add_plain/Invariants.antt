-- The pins so far.
use Rattle.std.proofs.Common.{◌≡◌, ◌++◌}
use Rattle.placer.proofs.PinLists.{plain_to}
use Rattle.placer.proofs.preferring.add_plain.Given as goal

abbrev pub invariant-loop-index : goal.invariant-loop-index
invariant-loop-index g l = l.list.items ≡ l.fn.list.items ++ plain_to g.D.Device.table l.index
