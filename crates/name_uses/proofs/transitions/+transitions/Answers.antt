-- All arms of a CASE.
use Rattle.std.proofs.Common.{◌++◌, ◌≤◌, length, map, sym, ap, ◌∙◌, arith}
use Rattle.name_uses.proofs.Common.{take_all, flat_map, view_choice, parts_in_choice, view_part}
use Rattle.name_uses.proofs.Lists.{choices_listed}
use Rattle.name_uses.proofs.transitions.+transitions.Goals as goal

pub put_choices-returns : goal.put_choices-returns
put_choices-returns t c =
    let arms = c.args.arms.now in
    let old = map view_part c.args.parts.now.items in
    let whole : length arms ≤ c.loop-arm.arm-index = omega (arith, c.loop-arm-test.false) in
    c.loop-arm.invariant
    ∙ ap (λ ps. old ++ ps)
    (ap (λ xs. flat_map parts_in_choice (map view_choice xs)) (take_all c.loop-arm.arm-index arms whole)
    ∙ sym (choices_listed (map view_choice arms)))
