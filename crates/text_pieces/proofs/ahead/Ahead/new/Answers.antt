-- A look from the front of a text is there.
use Rattle.std.proofs.Common.{◌∙◌, arith}
use Rattle.text_pieces.proofs.ahead.Ahead.new.Goals as goal

pub invariant_of-result : goal.invariant_of-result
invariant_of-result c = (c.settled.ensures.text ∙ c.new.ensures.text, omega arith, c.settled.ensures.settled, c.settled.ensures.is, omega (arith, c.requires.bytes, c.requires.fits), c.requires.bytes)
