-- The parts so far.
use Rattle.std.proofs.Common.{map, take}
use Rattle.placer.proofs.Common.{view_part, AreSeen}
use Rattle.placer.proofs.read_names.Naming.see_parts.Given as goal

abbrev pub invariant-loop-part : goal.invariant-loop-part
invariant-loop-part l = AreSeen l.self (map view_part (take l.part-index l.parts)) l.seen
