-- The numbers of the names so far.
use Rattle.std.proofs.Common.{◌≡◌, ℕ, List, map}
use Rattle.declared_names.proofs.Common.{find, view_declared, below, number_in}
use Rattle.declared_names.proofs.numbers.numbers_of.Given as goal

abbrev pub invariant-loop-number : goal.invariant-loop-number
invariant-loop-number l = (name : List ℕ) → number_in l.numbers.map.entries name ≡ below l.number (find (map view_declared l.names) name)
