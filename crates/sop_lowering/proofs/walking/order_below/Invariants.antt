use Rattle.std.proofs.Common.{◌+◌, ◌*◌, All, vec_len}
use Rattle.sop_lowering.proofs.Common.{Leads, StepsLead, unused}
use Rattle.sop_lowering.proofs.walking.order_below.Given as goal

abbrev pub invariant-steps : goal.invariant-steps
invariant-steps l = record {
  stack : StepsLead l.net l.fn.root l.stack.items;
  order : All (Leads l.net l.fn.root) l.order.items;
}

-- a bit is walked at its first use alone, and puts at most five steps onto the stack
abbrev pub decreases-steps : goal.decreases-steps
decreases-steps l = 6 * unused l.uses + vec_len l.stack
