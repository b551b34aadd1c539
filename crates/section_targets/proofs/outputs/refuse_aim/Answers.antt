use Rattle.section_targets.proofs.Common.{view_declared}
use Rattle.section_targets.proofs.Refused.{output_first}
use Rattle.section_targets.proofs.outputs.refuse_aim.Goals as goal

pub returns-then-not-may_take : goal.returns-then-not-may_take
returns-then-not-may_take g c = output_first g.D.Device.table c.args.before.now (view_declared c.args.declared.now) c.args.place c.args.manner c.may_take.result c.may_take.ensures c.if-not-may_take.true
