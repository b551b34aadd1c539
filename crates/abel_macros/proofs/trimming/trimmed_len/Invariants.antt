-- What is left is the front of the piece, and the same without blanks at its end.
use Rattle.std.proofs.Common.{◌≡◌, ◌≤◌, length, take}
use Rattle.abel_macros.specs.Forms as forms
use Rattle.abel_macros.proofs.trimming.trimmed_len.Given as goal

abbrev pub invariant-bytes : goal.invariant-bytes
invariant-bytes l =
    record {
      front : take (length l.left) l.fn.piece ≡ l.left;
      same : forms.trimmed_end l.left ≡ forms.trimmed_end l.fn.piece;
      within : length l.left ≤ length l.fn.piece;
    }

abbrev pub decreases-bytes : goal.decreases-bytes
decreases-bytes l = length l.left
