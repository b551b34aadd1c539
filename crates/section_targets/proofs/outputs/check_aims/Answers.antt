use Rattle.std.proofs.Common.{refl, ap₂, sym, subst, ◌∙◌, append-nil}
use Rattle.section_targets.proofs.Common.{earlier, section_order, AreFirsts}
use Rattle.section_targets.proofs.Refused.{refused_next, noted_next, aim_refused_as}
use Rattle.section_targets.proofs.outputs.check_aims.Goals as goal

pub loop-aim-init : goal.loop-aim-init
loop-aim-init g c = (λ all h. subst (AreFirsts c.args.before.now) (sym (append-nil all)) h, λ d all e h. refl)

pub loop-aim-preserved : goal.loop-aim-preserved
loop-aim-preserved g c = (
  λ all h. noted_next all c.note.new.self c.args.way.extension c.args.way.complement c.args.way.clocked c.args.aims.now c.loop-aim.aim-index _ c.loop-aim-test.true (c.in_ok-note.ensures _ (c.loop-aim.invariant.0 all h)),
  λ d all e h. c.earlier-fault.ensures
      ∙ ap₂ (earlier section_order) (c.loop-aim.invariant.1 d all e h)
      (c.refuse_aim.ensures ∙ aim_refused_as c.args.scope.now g.D.Device.table d c.list.result.now c.index-list-aim.result c.loop-aim.before c.args.way.extension c.args.way.complement c.args.way.clocked _ e (c.requires c.loop-aim.aim-index _ c.loop-aim-test.true) c.list.ensures c.index-list-aim.is)
      ∙ sym (refused_next d all c.loop-aim.before c.args.way.extension c.args.way.complement c.args.way.clocked c.args.aims.now c.loop-aim.aim-index _ c.loop-aim-test.true (c.loop-aim.invariant.0 all h)),
)
