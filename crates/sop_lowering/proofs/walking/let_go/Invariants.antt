use Rattle.sop_lowering.proofs.Common.{AreRight}
use Rattle.sop_lowering.proofs.walking.let_go.Given as goal

abbrev pub invariant-loop-index : goal.invariant-loop-index
invariant-loop-index l = record {
  right : AreRight l.net l.kept;
}
