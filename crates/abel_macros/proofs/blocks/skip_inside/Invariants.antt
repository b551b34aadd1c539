-- What is ahead leads to the same end as the whole.
use Rattle.std.proofs.Common.{◌≡◌, ◌≤◌, ◌<◌, ◌+◌, ◌^◌, length}
use Rattle.abel_macros.proofs.Common.{ahead}
use Rattle.text_pieces.specs.declared.mode.Mode.TheVariants as mode
use Rattle.abel_macros.specs.Forms as forms
use Rattle.abel_macros.proofs.blocks.skip_inside.Given as goal

abbrev pub invariant-bytes : goal.invariant-bytes
invariant-bytes l =
    record {
      behind : forms.closing l.inside l.mode (ahead l.at) ≡ forms.closing 0 mode.Plain (ahead l.fn.at);
      few : l.inside + length (ahead l.at) ≤ length (ahead l.fn.at);
      fits : length (ahead l.fn.at) < 2 ^ 63;
      whole : l.at.whole ≡ l.fn.at.whole;
      further : l.fn.at.passed ≤ l.at.passed;
    }

abbrev pub decreases-bytes : goal.decreases-bytes
decreases-bytes l = length (ahead l.at)
