-- The items so far.
use Rattle.std.proofs.Common.{fold, map, take}
use Rattle.decls.proofs.Common.{Table, pin_step, with_numbers, view_given, view_said, Shows, Progress}
use Rattle.decls.proofs.table.NameTable.enter_pins.Given as goal

abbrev pub invariant-loop-place : goal.invariant-loop-place
invariant-loop-place l = (t : Table) (s : Progress) → Shows t l.fn.self s → Shows t l.self (fold (pin_step t (view_said l.said)) s (with_numbers (map view_given (take l.place l.names)) l.numbers))
