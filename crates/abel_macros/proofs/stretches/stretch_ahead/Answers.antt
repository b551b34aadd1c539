-- The front of the piece is the front of the text.
use Rattle.std.proofs.Common.{arith}
use Rattle.abel_macros.proofs.Common.{ahead}
use Rattle.abel_macros.proofs.Passed.{front_begins}
use Rattle.abel_macros.proofs.stretches.stretch_ahead.Goals as goal

pub returns-clause-bytes : goal.returns-clause-bytes
returns-clause-bytes c = front_begins (ahead c.args.at.now) c.front-front.result.now c.split_at.result.0.now c.front-front.ensures.text (omega arith) c.split_at.ensures.front
