-- The bytes that are left to pass lead to the same end as all.
use Rattle.std.proofs.Common.{◌≡◌, ◌<◌, ◌≤◌, ◌^◌, ◌++◌, length, drop}
use Rattle.text_pieces.proofs.Common.{stacked}
use Rattle.text_pieces.proofs.rest.Rest.skip.Given as goal

abbrev pub invariant-pieces : goal.invariant-pieces
invariant-pieces l =
    record {
      behind : drop l.left (l.self-inside.top ++ stacked l.self-inside.stack.items) ≡ drop l.fn.count l.fn.self;
      most : l.left ≤ length (l.self-inside.top ++ stacked l.self-inside.stack.items);
      count : l.self-inside.bytes ≡ length (l.self-inside.top ++ stacked l.self-inside.stack.items);
      fits : length (l.self-inside.top ++ stacked l.self-inside.stack.items) < 2 ^ 63;
    }

abbrev pub decreases-pieces : goal.decreases-pieces
decreases-pieces l = length l.self-inside.stack.items
