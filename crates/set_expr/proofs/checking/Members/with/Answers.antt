use Rattle.std.proofs.Common.{ap, ◌∙◌}
use Rattle.set_expr.proofs.Common.{earlier, section_order}
use Rattle.set_expr.proofs.SetMembers.{valued_more, special_step, fault_step, width_step}
use Rattle.set_expr.proofs.checking.Members.with.Goals as goal

pub returns : goal.returns
returns c fs f s t =
    record {
      valued = valued_more fs f s.valued t.valued;
      special = c.earlier.ensures ∙ special_step c.args.self.special c.args.part.special fs f s.special t.special;
      fault = c.earlier-2.ensures ∙ (ap (earlier section_order c.args.self.fault) c.earlier-fault.ensures ∙ fault_step c.args.place c.args.self.fault c.args.part.fault c.large.result fs f s.fault t.fault (c.large.ensures f.value t.shape));
      width = c.saturating_add.ensures ∙ width_step c.args.self.width c.part_width.result fs f s.width (c.part_width.ensures f.value t.shape);
    }
