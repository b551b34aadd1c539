use Rattle.std.proofs.Common.{◌≡◌, ℕ, ◌<◌, ◌≤◌, length, get_or}
use Rattle.jedec_reader.proofs.vectors.at_pins.Given as goal

abbrev pub invariant-loop-pin : goal.invariant-loop-pin
invariant-loop-pin l = record {
  pins : length l.placed ≡ 24;
  placed : (k : ℕ) → k < l.pin → get_or l.placed k 0 ≡ get_or l.chars (get_or l.places k 0) 0;
  padded : (k : ℕ) → l.pin ≤ k → k < 24 → get_or l.placed k 0 ≡ 78;
}
