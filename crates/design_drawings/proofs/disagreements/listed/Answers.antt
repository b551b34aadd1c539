use Rattle.std.proofs.Common.{sym, arith}
use Rattle.std.proofs.lemmas.List.{take_all}
use Rattle.design_drawings.proofs.disagreements.listed.Goals as goal

pub returns-then-list-le-LISTED : goal.returns-then-list-le-LISTED
returns-then-list-le-LISTED c = sym (take_all 256 c.args.list.now (omega arith))
