use Rattle.fit_plans.proofs.ControlFuses.{level_found, level_last}
use Rattle.fit_plans.proofs.control_fuses.control_level.Goals as goal

pub returns-in-Some-switch_level : goal.returns-in-Some-switch_level
returns-in-Some-switch_level g c =
    level_found g.D.Device.table g.D.Device.sound c.args.plan.now c.args.forms.now c.args.fuse c.in-Some-switch_level.level (c.in-Some-switch_level.ensures.found c.args.forms.now)

pub returns : goal.returns
returns g c =
    rw c.unwrap_or.ensures
    (level_last g.D.Device.table g.D.Device.sound c.args.plan.now c.args.forms.now c.args.fuse c.fixed_level.result (c.fixed_level.ensures.found c.args.forms.now)
    (c.cell_level.ensures.none c.in_default.is) (c.switch_level.ensures.none c.in_default-switch_level.is) c.fixed_level.ensures.none)
