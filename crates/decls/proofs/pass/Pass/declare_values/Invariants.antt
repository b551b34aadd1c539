-- The items so far.
use Rattle.std.proofs.Common.{fold, map, take, zip}
use Rattle.decls.proofs.Common.{constant_step, view, Follows, Way, Progress}
use Rattle.decls.proofs.pass.Pass.declare_values.Given as goal

abbrev pub invariant-loop-place : goal.invariant-loop-place
invariant-loop-place l = (t : Way) (s : Progress) → Follows t l.fn.self s → Follows t l.self (fold constant_step s (zip (take l.place l.names) (map view l.values)))
