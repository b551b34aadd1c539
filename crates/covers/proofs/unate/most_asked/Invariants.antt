use Rattle.std.proofs.Common.{◌≡◌, ◌<◌}
use Rattle.covers.proofs.Common.{bit_at}
use Rattle.covers.proofs.unate.most_asked.Given as goal

abbrev pub invariant-loop-variable : goal.invariant-loop-variable
invariant-loop-variable l = record {
  low : l.found < 32;
  in_mask : bit_at l.mask l.found ≡ 1;
}
