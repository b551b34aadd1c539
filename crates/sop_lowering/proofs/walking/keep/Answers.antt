use Rattle.sop_lowering.proofs.KeptLists.{right_rows}
use Rattle.sop_lowering.proofs.walking.keep.Goals as goal

pub let_go-requires-clause-right : goal.let_go-requires-clause-right
let_go-requires-clause-right c = right_rows c.args.net.now c.args.kept.now c.put.new.self c.args.bit c.in_ok-rows.rows c.requires.right c.put.ensures c.in_ok-rows.ensures.list c.in_ok-rows.ensures.few
