-- After the transitions that are left it is what it is after all.
use Rattle.std.proofs.Common.{◌≡◌, drop}
use Rattle.source_sections.proofs.Common.{after_branches, view_arms}
use Rattle.source_sections.proofs.directives.after_arms.Given as goal

abbrev pub invariant-loop-arm : goal.invariant-loop-arm
invariant-loop-arm l = after_branches l.on (view_arms (drop l.arm-index l.arms)) ≡ after_branches l.fn.on (view_arms l.arms)
