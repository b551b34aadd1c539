-- What is ahead leads to the same end as the whole.
use Rattle.std.proofs.Common.{◌≡◌, ◌≤◌, ◌<◌, ◌+◌, ◌^◌, length}
use Rattle.abel_macros.proofs.Common.{ahead, quote_end, quoted_len}
use Rattle.abel_macros.proofs.tokens.quoted_rest.Given as goal

abbrev pub invariant-bytes : goal.invariant-bytes
invariant-bytes l =
    record {
      end : quote_end l.end l.taken (ahead l.look) ≡ quoted_len (ahead l.fn.at);
      few : l.end + length (ahead l.look) ≤ length (ahead l.fn.at);
      fits : length (ahead l.fn.at) < 2 ^ 63;
    }

abbrev pub decreases-bytes : goal.decreases-bytes
decreases-bytes l = length (ahead l.look)
