-- The bits that are left are those of the rest.
use Rattle.std.proofs.Common.{◌≡◌, ◌-◌, ◌++◌, map}
use Rattle.truth_tables.proofs.Common.{digits_low_first, view_mark}
use Rattle.abel_meaning.specs.Rows as meant
use Rattle.truth_tables.proofs.wholes.push_levels.Given as goal

abbrev pub invariant-loop-position : goal.invariant-loop-position
invariant-loop-position l =
    map view_mark l.marks.items ++ map meant.Level (digits_low_first (l.width - l._position) l.rest)
    ≡ map view_mark l.fn.marks.items ++ map meant.Level (digits_low_first l.width l.number)
