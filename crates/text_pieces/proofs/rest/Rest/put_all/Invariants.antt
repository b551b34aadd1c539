-- The pieces that are left, before the rest, are the text wanted.
use Rattle.std.proofs.Common.{◌≡◌, ◌+◌, ◌<◌, ◌≤◌, ◌^◌, ◌++◌, length}
use Rattle.text_pieces.proofs.Common.{joined}
use Rattle.text_pieces.proofs.rest.Rest.put_all.Given as goal

abbrev pub invariant-pieces : goal.invariant-pieces
invariant-pieces l = record { text : joined l.left ++ l.self ≡ joined l.fn.pieces ++ l.fn.self; fits : length l.self + length (joined l.left) < 2 ^ 63; fewer : length l.left ≤ length l.fn.pieces }

abbrev pub decreases-pieces : goal.decreases-pieces
decreases-pieces l = length l.left
