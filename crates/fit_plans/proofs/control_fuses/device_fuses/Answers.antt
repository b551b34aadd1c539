use Rattle.fit_plans.proofs.ControlFuses.{is_burned}
use Rattle.fit_plans.proofs.control_fuses.device_fuses.Goals as goal

pub returns : goal.returns
returns g c =
    is_burned g.D.Device.table c.args.plan.now c.args.forms.now c.in_ok-levels.levels.items c.deref.result.now c.in_ok-fuses.fuses.items c.deref.ensures.value c.in_ok-levels.ensures.levels c.in_ok-fuses.ensures
