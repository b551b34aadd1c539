-- The places of the bytes whose offsets are added.
use Rattle.std.proofs.Common.{◌≤◌, ◌-◌}
use Rattle.text_pieces.proofs.piece.Piece.add_to.Given as goal

abbrev pub invariant-offsets : goal.invariant-offsets
invariant-offsets l = l.place ≤ l.self-inside.to

abbrev pub decreases-offsets : goal.decreases-offsets
decreases-offsets l = l.self-inside.to - l.place
