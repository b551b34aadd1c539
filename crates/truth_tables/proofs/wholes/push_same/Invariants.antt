-- So many marks more.
use Rattle.std.proofs.Common.{◌≡◌, ◌++◌, replicate}
use Rattle.truth_tables.proofs.wholes.push_same.Given as goal

abbrev pub invariant-loop-position : goal.invariant-loop-position
invariant-loop-position l = l.marks.items ≡ l.fn.marks.items ++ replicate l._position l.mark
