-- One name more.
use Rattle.std.proofs.Common.{map, fold, take, subst, ap, ◌∙◌}
use Rattle.decls.proofs.Common.{said_of, say_step, Shows, view_given, view_said}
use Rattle.decls.proofs.Folded.{folded_more}
use Rattle.decls.proofs.table.NameTable.say.Goals as goal

pub loop-given-preserved : goal.loop-given-preserved
loop-given-preserved c = λ m s sh.
    let l = c.loop-given in
    let before = fold (say_step (view_said c.args.said)) s (map view_given (take l.given-index c.args.names.now)) in
    subst (Shows m c.say_one.new.self)
    (ap (λ n. record before { entries = said_of (view_said c.args.said) before.entries n }) c.as_slice.ensures.value
    ∙ folded_more (say_step (view_said c.args.said)) view_given s c.args.names.now l.given-index c.given-item.result c.loop-given-test.true c.given-item.is)
    (c.say_one.ensures m _ (l.invariant m s sh))
