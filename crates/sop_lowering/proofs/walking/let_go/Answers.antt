use Rattle.sop_lowering.proofs.KeptLists.{right_gone}
use Rattle.sop_lowering.proofs.walking.let_go.Goals.{in-Some+then-take, in-Some+else-take, in_default}
use Rattle.sop_lowering.proofs.walking.let_go.Goals as goal

pub loop-index-preserved : goal.loop-index-preserved
loop-index-preserved c = elim c.match-operand.branch [
  | in-Some+then-take w ↦ rw w.kept-is (record { right = right_gone c.args.net.now c.loop-index.kept w.put.new.self w.in-Some.operand c.loop-index.invariant.right w.put.ensures })
  | in-Some+else-take w ↦ rw w.kept-is (record { right = c.loop-index.invariant.right })
  | in_default w ↦ rw w.kept-is (record { right = c.loop-index.invariant.right })
]
