use Rattle.std.proofs.Common.{◌≡◌, ◌<◌}
use Rattle.covers.proofs.Common.{bit_at}
use Rattle.covers.proofs.votes.most_voted.Given as goal

abbrev pub invariant-loop-variable : goal.invariant-loop-variable
invariant-loop-variable l = record {
  low : l.found < 32;
  is_left : bit_at l.left l.found ≡ 1;
}
