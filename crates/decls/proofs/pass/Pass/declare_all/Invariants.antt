-- The items so far.
use Rattle.std.proofs.Common.{fold, map, take}
use Rattle.decls.proofs.Common.{declaration_step, view_decl, Follows, Way, Progress}
use Rattle.decls.proofs.pass.Pass.declare_all.Given as goal

abbrev pub invariant-loop-decl : goal.invariant-loop-decl
invariant-loop-decl l = (t : Way) (s : Progress) → Follows t l.fn.self s → Follows t l.self (fold (declaration_step t.table) s (map view_decl (take l.decl-index l.decls)))
