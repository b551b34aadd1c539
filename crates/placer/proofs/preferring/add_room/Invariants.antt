-- The cells so far.
use Rattle.std.proofs.Common.{◌≡◌, ◌++◌}
use Rattle.placer.proofs.PinLists.{room_pins}
use Rattle.placer.proofs.preferring.add_room.Given as goal

abbrev pub invariant-loop-index : goal.invariant-loop-index
invariant-loop-index g l = l.list.items ≡ l.fn.list.items ++ room_pins g.D.Device.table l.room l.index
