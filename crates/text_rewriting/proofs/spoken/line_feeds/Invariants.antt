-- The line feeds so far precede those of what is ahead.
use Rattle.std.proofs.Common.{◌≡◌, ◌≤◌, ◌+◌, ◌++◌, length, take}
use Rattle.text_rewriting.proofs.Common.{ahead, line_feeds}
use Rattle.text_rewriting.proofs.spoken.line_feeds.Given as goal

abbrev pub invariant-bytes : goal.invariant-bytes
invariant-bytes l =
    record {
      bytes : l.bytes.items ++ line_feeds (ahead l.at) ≡ line_feeds (take l.fn.count l.fn.rest);
      few : length l.bytes.items + length (ahead l.at) ≤ l.fn.count;
    }

abbrev pub decreases-bytes : goal.decreases-bytes
decreases-bytes l = length (ahead l.at)
