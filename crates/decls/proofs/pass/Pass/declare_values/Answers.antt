-- One name more.
use Rattle.std.proofs.Common.{map, subst}
use Rattle.decls.proofs.Common.{view, Follows}
use Rattle.decls.proofs.Values.{values_more}
use Rattle.decls.proofs.pass.Pass.declare_values.Goals as goal

pub loop-place-preserved : goal.loop-place-preserved
loop-place-preserved c = λ m s sh.
    let l = c.loop-place in
    subst (Follows m c.declare_value.new.self)
    (values_more s c.args.names.now (map view c.args.values.now) l.place c.index-names-place.result c.loop-place-test.true c.index-names-place.is)
    (c.in_ok-declare_value.ensures m _ (l.invariant m s sh))
