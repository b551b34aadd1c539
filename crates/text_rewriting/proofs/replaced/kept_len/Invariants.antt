-- The bytes that were passed stay.
use Rattle.std.proofs.Common.{◌≡◌, ◌≤◌, ◌<◌, ◌+◌, ◌^◌, ◌++◌, length, take, drop}
use Rattle.text_rewriting.proofs.Common.{ahead, replaced, bound}
use Rattle.text_rewriting.proofs.replaced.kept_len.Given as goal

abbrev pub invariant-bytes : goal.invariant-bytes
invariant-bytes l =
    record {
      place : ahead l.look ≡ drop l.count (ahead l.fn.at);
      stay :
          take l.count (ahead l.fn.at) ++ replaced (bound l.fn.arguments.by_name.entries) 0 (drop l.count (ahead l.fn.at)) ≡ replaced (bound l.fn.arguments.by_name.entries) 0 (ahead l.fn.at);
      few : l.count + length (ahead l.look) ≤ length (ahead l.fn.at);
      fits : length (ahead l.fn.at) < 2 ^ 63;
    }

abbrev pub decreases-bytes : goal.decreases-bytes
decreases-bytes l = length (ahead l.look)
