-- What is ahead leads to the same end as the whole.
use Rattle.std.proofs.Common.{◌≡◌, ◌≤◌, ◌+◌, ◌++◌, length, take, drop}
use Rattle.abel_macros.proofs.Common.{ahead}
use Rattle.abel_macros.proofs.words.read.Given as goal

abbrev pub invariant-bytes : goal.invariant-bytes
invariant-bytes l =
    record {
      read : l.bytes.items ++ take l.left (ahead l.at) ≡ take l.fn.count (ahead l.fn.at);
      behind : drop l.left (ahead l.at) ≡ drop l.fn.count (ahead l.fn.at);
      some : l.left ≤ length (ahead l.at);
      further : l.fn.at.passed ≤ l.at.passed;
      whole : l.at.whole ≡ l.fn.at.whole;
      passed : l.at.passed + l.left ≡ l.fn.at.passed + l.fn.count;
    }

abbrev pub decreases-bytes : goal.decreases-bytes
decreases-bytes l = l.left
