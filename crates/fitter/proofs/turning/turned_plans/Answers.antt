use Rattle.std.proofs.Common.{sym, ap, subst, ◌++◌, ◌∷◌, [], ◌∙◌, take}
use Rattle.fitter.proofs.Common.{take_more, CellPlan, AreTurned}
use Rattle.fitter.proofs.TurnedPlans.{none_turned, turned_more}
use Rattle.fitter.proofs.turning.turned_plans.Goals as goal

pub loop-plan-init : goal.loop-plan-init
loop-plan-init g c = record { so_far = rw c.new-list.ensures.items (none_turned g.D.Device.table c.args.mask) }

pub loop-plan-preserved : goal.loop-plan-preserved
loop-plan-preserved g c =
    let l = c.loop-plan in
    record {
      so_far =
          rw c.in_ok-push.ensures.items
          (subst (λ xs. AreTurned g.D.Device.table c.args.mask xs (l.list.items ++ c.in_ok-cell.cell ∷ []))
          (sym (take_more c.args.plans.now l.plan-index c.plan-item.result c.loop-plan-test.true ∙ ap (λ (x : CellPlan). take l.plan-index c.args.plans.now ++ x ∷ []) (sym c.plan-item.is)))
          (turned_more g.D.Device.table c.args.mask (take l.plan-index c.args.plans.now) l.list.items c.plan-item.result c.in_ok-cell.cell l.invariant.so_far c.in_ok-cell.ensures));
    }
