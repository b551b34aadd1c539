-- What is ahead leads to the same end as the whole.
use Rattle.std.proofs.Common.{◌≡◌, ◌≤◌, length}
use Rattle.abel_macros.proofs.Common.{ahead}
use Rattle.abel_macros.specs.Gaps as gaps
use Rattle.abel_macros.proofs.gaps.skip_gap_to.Given as goal

abbrev pub invariant-bytes : goal.invariant-bytes
invariant-bytes l =
    record {
      behind : gaps.gap_in l.mode (ahead l.at) ≡ gaps.gap (ahead l.fn.at);
      whole : l.at.whole ≡ l.fn.at.whole;
      further : l.fn.at.passed ≤ l.at.passed;
    }

abbrev pub decreases-bytes : goal.decreases-bytes
decreases-bytes l = length (ahead l.at)
