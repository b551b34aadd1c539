use Rattle.std.proofs.Common.{get_or, None, false, arith}
use Rattle.fit_plans.proofs.Common.{fuse_level}
use Rattle.fit_plans.proofs.FuseSteps.{one_fuse, all_fuses}
use Rattle.fit_plans.proofs.burning.burn.Goals as goal

pub loop-number-preserved : goal.loop-number-preserved
loop-number-preserved g c =
    record { fuses = one_fuse (fuse_level g.D.Device.table (λ row. get_or c.args.plan.now row None) (λ n. get_or c.args.control.now n false)) c.loop-number.number c.loop-number.fuses.items c.push.new.self.items c.fuse.result c.loop-number.invariant.fuses c.fuse.ensures c.in_ok-push.ensures.items }

pub returns : goal.returns
returns g c =
    all_fuses g.D.Device.table (λ row. get_or c.args.plan.now row None) (λ n. get_or c.args.control.now n false) c.loop-number.number c.loop-number.fuses.items
    (omega (arith, c.loop-number.auto.number-end, c.loop-number-test.false, c.fuses-number-end.ensures)) c.loop-number.invariant.fuses
