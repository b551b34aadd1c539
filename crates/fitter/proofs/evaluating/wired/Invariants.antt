-- The places so far have their levels.
use Rattle.std.proofs.Common.{◌≡◌, ◌<◌, ℕ, get_or}
use Rattle.fitter.proofs.Common.{bits, is_on}
use Rattle.fitter.proofs.evaluating.wired.Given as goal

abbrev pub invariant-loop-place : goal.invariant-loop-place
invariant-loop-place l = record {
  each : (k : ℕ) → k < l.place → get_or l.pairs k 0 < 32 → is_on (bits 32 l.wires) k ≡ is_on (bits 32 l.levels) (get_or l.pairs k 0);
}
