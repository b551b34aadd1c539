-- A constant's expression, and what is no constant.
use Rattle.truth_tables.proofs.part.named_part.Goals as goal

pub returns-in-Constant-clause-clear : goal.returns-in-Constant-clause-clear
returns-in-Constant-clause-clear c b h = c.part_of.ensures.clear b (c.in-Constant.ensures.clear b h)

pub returns-in-Part-clause-clear : goal.returns-in-Part-clause-clear
returns-in-Part-clause-clear c b h = c.in-Part.ensures.clear b h
