-- What is reported and what is left are the whole.
use Rattle.std.proofs.Common.{◌≡◌, [], ◌++◌}
use Rattle.reports.specs.Warnings.{seconds}
use Rattle.reports.proofs.WarnedNames.{names_at, names_from}
use Rattle.reports.proofs.assignments.find_second_assignments.Given as goal

abbrev pub invariant-loop-statement : goal.invariant-loop-statement
invariant-loop-statement l =
    l.found ++ seconds (names_at l.seen.items) (names_from l.statements l.statement-index) ≡ l.fn.found ++ seconds [] (names_from l.statements 0)
