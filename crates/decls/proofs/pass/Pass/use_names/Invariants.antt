-- The items so far.
use Rattle.std.proofs.Common.{fold, map, take}
use Rattle.decls.proofs.Common.{view_use, name_step, Follows, Way, Progress}
use Rattle.decls.proofs.pass.Pass.use_names.Given as goal

abbrev pub invariant-loop-name : goal.invariant-loop-name
invariant-loop-name l = (t : Way) (s : Progress) → Follows t l.fn.self s → Follows t l.self (fold name_step s (map view_use (take l.name-index l.names)))
