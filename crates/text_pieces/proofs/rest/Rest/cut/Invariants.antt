-- The pieces taken, with what is left of the front, are the front.
use Rattle.std.proofs.Common.{◌≡◌, ◌<◌, ◌≤◌, ◌^◌, ◌++◌, length, drop, take}
use Rattle.text_pieces.proofs.Common.{stacked, joined}
use Rattle.text_pieces.proofs.rest.Rest.cut.Given as goal

abbrev pub invariant-pieces : goal.invariant-pieces
invariant-pieces l =
    record {
      cut : joined l.pieces.items ++ take l.left (l.self-inside.top ++ stacked l.self-inside.stack.items) ≡ take l.fn.count l.fn.self;
      behind : drop l.left (l.self-inside.top ++ stacked l.self-inside.stack.items) ≡ drop l.fn.count l.fn.self;
      most : l.left ≤ length (l.self-inside.top ++ stacked l.self-inside.stack.items);
      count : l.self-inside.bytes ≡ length (l.self-inside.top ++ stacked l.self-inside.stack.items);
      fits : length (l.self-inside.top ++ stacked l.self-inside.stack.items) < 2 ^ 63;
    }

abbrev pub decreases-pieces : goal.decreases-pieces
decreases-pieces l = length l.self-inside.stack.items
