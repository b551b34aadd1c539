-- The blocks that are open before the next byte.
use Rattle.std.proofs.Common.{◌≤◌, ◌-◌, length}
use Rattle.text_pieces.proofs.Common.{BlocksOpen}
use Rattle.text_pieces.proofs.blocks.block_ends.Given as goal

abbrev pub invariant-bytes : goal.invariant-bytes
invariant-bytes l = record { begun : BlocksOpen l.text l.mode l.at l.ends; within : l.at ≤ length l.text }

abbrev pub decreases-bytes : goal.decreases-bytes
decreases-bytes l = length l.text - l.at
