-- What is ahead leads to the same end as the whole.
use Rattle.std.proofs.Common.{◌≡◌, ◌≤◌, ◌<◌, ◌+◌, ◌^◌, length}
use Rattle.abel_macros.proofs.Common.{prefix_len, is_ascii_alphanumeric, ahead}
use Rattle.abel_macros.proofs.lengths.alphanumeric_len.Given as goal

abbrev pub invariant-bytes : goal.invariant-bytes
invariant-bytes l =
    record {
      value : l.count + prefix_len is_ascii_alphanumeric (ahead l.look) ≡ prefix_len is_ascii_alphanumeric (ahead l.fn.at);
      few : l.count + length (ahead l.look) ≤ length (ahead l.fn.at);
      fits : length (ahead l.fn.at) < 2 ^ 63;
    }

abbrev pub decreases-bytes : goal.decreases-bytes
decreases-bytes l = length (ahead l.look)
