-- No name before is the one that is looked for.
use Rattle.std.proofs.Common.{◌≡◌, drop, map}
use Rattle.abel_tree.specs.Entries.{entries_of, kind_of, view_declared}
use Rattle.reports.proofs.sums.declared.Given as goal

abbrev pub invariant-loop-declared : goal.invariant-loop-declared
invariant-loop-declared l = kind_of (entries_of l.names) l.name ≡ kind_of (map view_declared (drop l.declared-index l.names.list)) l.name
