-- What is ahead leads to the same end as the whole.
use Rattle.std.proofs.Common.{◌≡◌, ◌≤◌, ◌+◌, ◌-◌, length, take}
use Rattle.abel_macros.proofs.Common.{prefix_len, ahead, is_blank}
use Rattle.abel_macros.proofs.trimming.blank_len.Given as goal

abbrev pub invariant-bytes : goal.invariant-bytes
invariant-bytes l =
    record {
      value : l.blanks + prefix_len is_blank (take (l.fn.count - l.blanks) (ahead l.look)) ≡ prefix_len is_blank (take l.fn.count (ahead l.fn.at));
      most : l.blanks ≤ l.fn.count;
      some : l.fn.count - l.blanks ≤ length (ahead l.look);
    }

abbrev pub decreases-bytes : goal.decreases-bytes
decreases-bytes l = l.fn.count - l.blanks
