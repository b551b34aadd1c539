use Rattle.sop_lowering.proofs.Common.{AreRight}
use Rattle.sop_lowering.proofs.walking.make_ahead.Given as goal

abbrev pub invariant-loop-bit : goal.invariant-loop-bit
invariant-loop-bit l = record {
  right : AreRight l.net l.kept;
}
