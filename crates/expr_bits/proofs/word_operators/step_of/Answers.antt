-- What goes along no words.
use Rattle.expr_bits.proofs.AlongWords.{no_step}
use Rattle.expr_bits.proofs.word_operators.step_of.Goals as goal

pub returns-in_default : goal.returns-in_default
returns-in_default c = no_step c.args.sign c.in_default.not-And c.in_default.not-Or c.in_default.not-Xor c.in_default.not-Xnor c.in_default.not-Plus
