-- Pieces that hold nothing are left out: the text stays.
use Rattle.std.proofs.Common.{◌≡◌, ◌<◌, ◌^◌, ◌++◌, length}
use Rattle.text_pieces.proofs.Common.{stacked}
use Rattle.text_pieces.proofs.rest.Rest.take_byte.Given as goal

abbrev pub invariant-pieces : goal.invariant-pieces
invariant-pieces l = record { text : l.self-inside.top ++ stacked l.self-inside.stack.items ≡ l.fn.self; count : l.self-inside.bytes ≡ length l.fn.self; fits : length l.fn.self < 2 ^ 63 }

abbrev pub decreases-pieces : goal.decreases-pieces
decreases-pieces l = length l.self-inside.stack.items
