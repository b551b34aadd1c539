-- After the arms of CASE that are left it is what it is after all.
use Rattle.std.proofs.Common.{◌≡◌, drop}
use Rattle.source_sections.proofs.Common.{after_choices, view_choices}
use Rattle.source_sections.proofs.directives.+arms.Given as goal

abbrev pub invariant-after_choices-loop-arm : goal.invariant-after_choices-loop-arm
invariant-after_choices-loop-arm l = after_choices l.on (view_choices (drop l.arm-index l.arms)) ≡ after_choices l.fn.on (view_choices l.arms)
