-- What is ahead leads to the same end as the whole.
use Rattle.std.proofs.Common.{◌≡◌, ◌≤◌, ◌+◌, length}
use Rattle.abel_macros.proofs.Common.{ahead}
use Rattle.abel_macros.specs.Forms as forms
use Rattle.abel_macros.proofs.stretches.skip_braced.Given as goal

abbrev pub invariant-stretches : goal.invariant-stretches
invariant-stretches l =
    record {
      value : forms.closing l.open l.fn.mode (ahead l.at) ≡ forms.closing l.fn.inside l.fn.mode (ahead l.fn.at);
      few : l.open + length (ahead l.at) ≤ l.fn.inside + length (ahead l.fn.at);
      whole : l.at.whole ≡ l.fn.at.whole;
      further : l.fn.at.passed ≤ l.at.passed;
    }

abbrev pub decreases-stretches : goal.decreases-stretches
decreases-stretches l = length (ahead l.at)
