-- One item more, and all of them.
use Rattle.std.proofs.Common.{◌≤◌, length, fold, map, subst, ap, ◌∙◌, arith}
use Rattle.decls.proofs.Common.{take_all, view, value_step, Follows}
use Rattle.decls.proofs.Folded.{folded_more}
use Rattle.decls.proofs.PartsUsed.{values_are_used}
use Rattle.decls.proofs.pass.Pass.use_values.Goals as goal

pub loop-value-preserved : goal.loop-value-preserved
loop-value-preserved c = λ m s sh.
    let l = c.loop-value in
    subst (Follows m c.use_value.new.self) (folded_more value_step view s c.args.values.now l.value-index c.value-item.result c.loop-value-test.true c.value-item.is) (c.in_ok-use_value.ensures m _ (l.invariant m s sh))

pub returns : goal.returns
returns c = λ w s f.
    let values = c.args.values.now in
    let whole : length values ≤ c.loop-value.value-index = omega (arith, c.loop-value-test.false) in
    subst (Follows w c.loop-value.self)
    (ap (λ xs. fold value_step s (map view xs)) (take_all c.loop-value.value-index values whole) ∙ values_are_used s (map view values))
    (c.loop-value.invariant w s f)
