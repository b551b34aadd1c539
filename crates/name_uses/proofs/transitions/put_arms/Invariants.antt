-- The parts of those so far follow what was there.
use Rattle.std.proofs.Common.{◌≡◌, ◌++◌, map, take}
use Rattle.name_uses.proofs.Common.{flat_map, view_arm, parts_in_branch, view_part}
use Rattle.name_uses.proofs.transitions.put_arms.Given as goal

abbrev pub invariant-loop-arm : goal.invariant-loop-arm
invariant-loop-arm l = map view_part l.parts.items ≡ map view_part l.fn.parts.items ++ flat_map parts_in_branch (map view_arm (take l.arm-index l.arms))
