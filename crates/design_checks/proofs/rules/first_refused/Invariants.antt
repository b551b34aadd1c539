-- The first that is refused of the contributions so far.
use Rattle.std.proofs.Common.{◌≡◌, take}
use Rattle.design_checks.proofs.Common.{arena, entries_of, first_refusal, use_order, refuses, targets_refused}
use Rattle.design_checks.proofs.rules.first_refused.Given as goal

abbrev pub invariant-loop-given : goal.invariant-loop-given
invariant-loop-given g l =
    l.first ≡ first_refusal use_order (targets_refused (refuses g.D.Device.table (arena l.found.exprs) l.rule) (entries_of l.scope) (take l.given-index l.given-items))
