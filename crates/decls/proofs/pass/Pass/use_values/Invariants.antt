-- The items so far.
use Rattle.std.proofs.Common.{fold, map, take}
use Rattle.decls.proofs.Common.{view, value_step, Follows, Way, Progress}
use Rattle.decls.proofs.pass.Pass.use_values.Given as goal

abbrev pub invariant-loop-value : goal.invariant-loop-value
invariant-loop-value l = (t : Way) (s : Progress) → Follows t l.fn.self s → Follows t l.self (fold value_step s (map view (take l.value-index l.values)))
