-- What is found so far, and of the other conditions, is found of all.
use Rattle.std.proofs.Common.{◌≡◌, drop}
use Rattle.state_diagrams.proofs.Common.{earlier, context_for, section_order, view_choices, choices_refused}
use Rattle.state_diagrams.proofs.GuardLaws.{first}
use Rattle.state_diagrams.proofs.choices.check_conditions.Given as goal

abbrev pub invariant-loop-arm : goal.invariant-loop-arm
invariant-loop-arm g l =
    let d = context_for g.D.Device.table l.scope in
    earlier section_order l.fault (first (choices_refused d (view_choices (drop l.arm-index l.arm-items)))) ≡ first (choices_refused d (view_choices l.arm-items))
