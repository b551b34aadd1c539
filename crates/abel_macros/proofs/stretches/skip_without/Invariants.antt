-- What was passed hasn't the byte.
use Rattle.std.proofs.Common.{◌≡◌, ◌<◌, ◌+◌, ◌^◌, length, take, drop, ◌==◌}
use Rattle.abel_macros.proofs.Common.{count_by, ahead}
use Rattle.abel_macros.proofs.stretches.skip_without.Given as goal

abbrev pub invariant-stretches : goal.invariant-stretches
invariant-stretches l =
    record {
      none : count_by (λ b. b == l.fn.byte) (take l.passed (ahead l.fn.at)) ≡ 0;
      place : ahead l.at ≡ drop l.passed (ahead l.fn.at);
      within : l.passed + length (ahead l.at) ≡ length (ahead l.fn.at);
      fits : length (ahead l.fn.at) < 2 ^ 63;
      whole : l.at.whole ≡ l.fn.at.whole;
    }

abbrev pub decreases-stretches : goal.decreases-stretches
decreases-stretches l = length (ahead l.at)
