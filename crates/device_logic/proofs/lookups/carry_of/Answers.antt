use Rattle.device_logic.proofs.Ranges.{carry_in_range}
use Rattle.device_logic.proofs.lookups.carry_of.Goals as goal

pub returns-clause-range : goal.returns-clause-range
returns-clause-range g c = carry_in_range g.D.Device.table g.D.Device.sound c.args.pair c.carries.result c.carries.ensures
