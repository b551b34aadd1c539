-- The pieces that are left are the same without blanks at their end.
use Rattle.std.proofs.Common.{◌≡◌, length}
use Rattle.abel_macros.proofs.Common.{joined}
use Rattle.abel_macros.specs.Forms as forms
use Rattle.abel_macros.proofs.trimming.trim_end.Given as goal

abbrev pub invariant-pieces : goal.invariant-pieces
invariant-pieces l = forms.trimmed_end (joined l.pieces.items) ≡ forms.trimmed_end (joined l.fn.pieces.items)

abbrev pub decreases-pieces : goal.decreases-pieces
decreases-pieces l = length l.pieces.items
