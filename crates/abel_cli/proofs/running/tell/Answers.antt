-- Where memory runs out before the text is put, an empty front of it was taken.
use Rattle.abel_cli.proofs.Common.{heard, view}
use Rattle.abel_cli.proofs.Report.{memory_first}
use Rattle.abel_cli.proofs.running.tell.Goals as goal

pub returns-in_default : goal.returns-in_default
returns-in_default g c = memory_first (view c.args.outcome.now) (heard _ _ _ _ _ _) c.report_memory.ensures.status c.report_memory.ensures.taken
