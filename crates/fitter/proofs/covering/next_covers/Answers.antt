use Rattle.fitter.proofs.CoversInTurn.{covered_at}
use Rattle.fitter.proofs.covering.next_covers.Goals as goal

pub returns-else-refused-clause-checked : goal.returns-else-refused-clause-checked
returns-else-refused-clause-checked g c = covered_at g.D.Device.table c.args.fit.now.over.turned c.args.fit.now.over.net.now c.args.cell c.cover_at.result c.cover_at.ensures
