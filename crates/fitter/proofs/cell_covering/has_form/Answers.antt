use Rattle.fitter.proofs.Coverable.{can_lower}
use Rattle.fitter.proofs.cell_covering.has_form.Goals as goal

pub has_lists-requires-clause-one : goal.has_lists-requires-clause-one
has_lists-requires-clause-one g c = can_lower g.D.Device.table c.args.net.now c.args.wanted.now.function.one g.D.Device.sound c.requires.sound c.requires.can.one

pub has_lists-requires-clause-any : goal.has_lists-requires-clause-any
has_lists-requires-clause-any g c = can_lower g.D.Device.table c.args.net.now c.args.wanted.now.function.any g.D.Device.sound c.requires.sound c.requires.can.any

pub has_lists-requires-2-clause-one : goal.has_lists-requires-2-clause-one
has_lists-requires-2-clause-one g c = can_lower g.D.Device.table c.args.net.now c.args.wanted.now.function.one g.D.Device.sound c.requires.sound c.requires.can.one

pub has_lists-requires-2-clause-any : goal.has_lists-requires-2-clause-any
has_lists-requires-2-clause-any g c = can_lower g.D.Device.table c.args.net.now c.args.wanted.now.function.any g.D.Device.sound c.requires.sound c.requires.can.any
