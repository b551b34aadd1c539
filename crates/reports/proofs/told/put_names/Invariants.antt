-- The names of the numbers so far.
use Rattle.std.proofs.Common.{◌≡◌, ◌++◌, take}
use Rattle.reports.proofs.Common.{entries_of, names_text}
use Rattle.reports.proofs.told.put_names.Given as goal

abbrev pub invariant-loop-number : goal.invariant-loop-number
invariant-loop-number l = l.text.items ≡ l.initial.text.items ++ names_text (entries_of l.names) (take l.number-index l.numbers)
