use Rattle.std.proofs.Common.{◌+◌, ◌≤◌, vec_len}
use Rattle.sop_lowering.proofs.Common.{SignedBit, Leads, StepsLead}
use Rattle.sop_lowering.proofs.walking.put_steps.Given as goal

abbrev pub invariant-loop-index : goal.invariant-loop-index
invariant-loop-index l = record {
  lead : (root : SignedBit) → Leads l.net root l.bit → StepsLead l.net root l.initial.stack.items → StepsLead l.net root l.stack.items;
  few : vec_len l.stack + l.index ≤ vec_len l.initial.stack + 4;
}
