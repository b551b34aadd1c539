use Rattle.design_drawings.proofs.ReadBack as read_back
use Rattle.design_drawings.proofs.laws.escaped_texts_read_back.Goals as goal

pub returns : goal.returns
returns c = read_back.escaped_texts_read_back
