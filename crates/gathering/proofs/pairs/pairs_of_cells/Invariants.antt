-- The pairs so far are there.
use Rattle.std.proofs.Common.{◌≡◌, ◌<◌, ℕ, get_or, length}
use Rattle.gathering.proofs.Common.{no_pair, pair_of_cell}
use Rattle.gathering.proofs.pairs.pairs_of_cells.Given as goal

abbrev pub invariant-loop-cell : goal.invariant-loop-cell
invariant-loop-cell g l = record {
  long : length l.pairs ≡ 25;
  pairs : (n : ℕ) → n < l.cell → get_or l.pairs n no_pair ≡ pair_of_cell g.D.Device.table n;
}
