use Rattle.fuse_porting.proofs.ControlFuses.{level_found, level_last}
use Rattle.fuse_porting.proofs.control.control_level.Goals as goal

pub returns-in-Some-switch_level : goal.returns-in-Some-switch_level
returns-in-Some-switch_level g c =
    level_found g.T.Device.table g.T.Device.sound c.args.polarities.now c.args.fuse c.in-Some-switch_level.level (c.in-Some-switch_level.ensures.found c.args.polarities.now)

pub returns : goal.returns
returns g c =
    rw c.unwrap_or.ensures
    (level_last g.T.Device.table g.T.Device.sound c.requires.kinds c.args.polarities.now c.args.fuse c.fixed_level.result (c.fixed_level.ensures.found c.args.polarities.now)
    (c.cell_level.ensures.none c.in_default.is) (c.switch_level.ensures.none c.in_default-switch_level.is) c.fixed_level.ensures.none)
