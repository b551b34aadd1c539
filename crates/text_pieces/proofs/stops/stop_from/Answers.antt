-- A byte that is no stop, before the next one.
use Rattle.std.proofs.Common.{arith, sym}
use Rattle.text_pieces.proofs.Common.{is_stop}
use Rattle.text_pieces.proofs.Stopped.{stop_here, stop_behind}
use Rattle.text_pieces.proofs.stops.stop_from.Goals as goal

pub returns-then-is_at-clause-none : goal.returns-then-is_at-clause-none
returns-then-is_at-clause-none c = stop_here (is_stop c.args.stop) c.args.text.now c.args.at (omega arith)

pub returns-else-is_at-clause-none : goal.returns-else-is_at-clause-none
returns-else-is_at-clause-none c = stop_behind (is_stop c.args.stop) c.args.text.now c.args.at c.args.behind c.requires.within (sym c.if-is_at.ensures) (omega arith) c.requires.none
