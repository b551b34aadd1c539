use Rattle.std.proofs.Common.{◌≡◌, ℕ, get_or, None}
use Rattle.sop_lowering.proofs.kept.no_lists.Given as goal

abbrev pub invariant-loop-id : goal.invariant-loop-id
invariant-loop-id l = record {
  none : (i : ℕ) → get_or l.lists.items i None ≡ None;
}
