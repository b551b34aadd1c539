-- What it reads, and whose enable it assigns.
use Rattle.placer.proofs.Common.{view_part}
use Rattle.placer.proofs.Joins.{one_part}
use Rattle.placer.proofs.read_names.Naming.see_part.Goals as goal

pub returns : goal.returns
returns c = one_part c.args.self.now (view_part c.args.part.now) (record { read = c.in_ok-read.read; enabled = c.in_ok-enabled.enabled }) c.in_ok-read.ensures c.in_ok-enabled.ensures
