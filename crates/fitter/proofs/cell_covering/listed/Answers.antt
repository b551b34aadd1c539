use Rattle.fitter.proofs.Coverable.{can_lower}
use Rattle.fitter.proofs.cell_covering.listed.Goals as goal

pub lower-requires : goal.lower-requires
lower-requires g c = can_lower g.D.Device.table c.args.net.now c.in-Some.found.bit g.D.Device.sound c.requires.sound (c.requires.id c.in-Some.found c.in-Some.is)
