-- The pieces are those of the line.
use Rattle.design_drawings.specs.Disagreements.{mismatch_item}
use Rattle.design_drawings.proofs.disagreements.put_mismatch.Goals as goal

pub returns : goal.returns
unfolding mismatch_item
returns c = rw (c.from.ensures, c.label.ensures, c.level_word.ensures, c.level_word-2.ensures) at c.put.ensures
