-- None of the bytes ends or nests anything.
use Rattle.std.proofs.Common.{◌∙◌}
use Rattle.abel_macros.proofs.Common.{ahead}
use Rattle.abel_macros.proofs.Passed.{unbracketed_on}
use Rattle.abel_macros.proofs.stretches.skip_unbracketed.Goals as goal

pub returns-then-is_plain-clause-value : goal.returns-then-is_plain-clause-value
returns-then-is_plain-clause-value c =
    unbracketed_on c.args.mode c.args._parens c.args._brackets c.unbracketed_len.result (ahead c.args.at.now) (ahead c.skip.new.self) c.if-is_plain.ensures c.unbracketed_len.ensures.none c.skip.ensures.ahead
