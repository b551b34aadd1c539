-- The parts of those so far follow what was there.
use Rattle.std.proofs.Common.{◌≡◌, ◌++◌, map, take}
use Rattle.name_uses.proofs.Common.{flat_map, view_choice, parts_in_choice, view_part}
use Rattle.name_uses.proofs.transitions.+transitions.Given as goal

abbrev pub invariant-put_choices-loop-arm : goal.invariant-put_choices-loop-arm
invariant-put_choices-loop-arm l = map view_part l.parts.items ≡ map view_part l.fn.parts.items ++ flat_map parts_in_choice (map view_choice (take l.arm-index l.arms))
