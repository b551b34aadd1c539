-- The pins so far.
use Rattle.std.proofs.Common.{◌≡◌, ℕ, ◌+◌, ◌<◌, length, get_or}
use Rattle.abel_vectors.proofs.Common.{char_or_plain, found_at}
use Rattle.abel_vectors.proofs.pins.vector_of.Given as goal

abbrev pub invariant-loop-index : goal.invariant-loop-index
invariant-loop-index g l = record {
  pins : length l.chars ≡ 24;
  placed : (k : ℕ) → k < l.index → get_or l.chars k 0 ≡ char_or_plain g.D.Device.table (k + 1) (found_at l.list (k + 1));
}
