use Rattle.decompiled.proofs.ReadTexts.{read}
use Rattle.decompiled.proofs.tree_laws.source_texts_are_read.Goals as goal

pub returns : goal.returns
returns c = read
