use Rattle.fuse_listing.proofs.Ranges.{carry_is_there}
use Rattle.fuse_listing.proofs.lookups.carry_at.Goals as goal

pub returns-clause-is_there : goal.returns-clause-is_there
returns-clause-is_there g c = carry_is_there g.D.Device.table g.D.Device.sound _ c.carries.result c.carries.ensures
