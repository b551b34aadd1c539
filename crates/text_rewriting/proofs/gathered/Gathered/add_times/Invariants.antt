-- What was gathered and the times that are left are the whole.
use Rattle.std.proofs.Common.{◌≡◌, ◌++◌, replicate}
use Rattle.text_rewriting.proofs.Common.{concat, joined}
use Rattle.text_rewriting.proofs.gathered.Gathered.add_times.Given as goal

abbrev pub invariant-times : goal.invariant-times
invariant-times l =
    record { text : l.self.text ++ concat (replicate l.left (joined l.pieces)) ≡ l.fn.self.text ++ concat (replicate l.fn.count (joined l.fn.pieces)); most : l.self.most ≡ l.fn.self.most }

abbrev pub decreases-times : goal.decreases-times
decreases-times l = l.left
