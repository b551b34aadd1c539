-- The pins so far.
use Rattle.std.proofs.Common.{◌≡◌, List, take}
use Rattle.placer.proofs.Common.{Entry, view_declared, AreFree, wanted_of}
use Rattle.placer.proofs.wishing.wish_of.Given as goal

abbrev pub invariant-loop-pin : goal.invariant-loop-pin
invariant-loop-pin g l = (es : List Entry) → AreFree g.D.Device.table es l.free → l.list.items ≡ wanted_of g.D.Device.table es l.read (view_declared l.declared) (take l.pin-index l.pin-items)
