-- No name so far.
use Rattle.std.proofs.Common.{◌≡◌, false, take}
use Rattle.decls.proofs.Common.{list_any, said_by_either, brings_clash, view_said}
use Rattle.decls.proofs.saying.is_clash_for.Given as goal

abbrev pub invariant-loop-before : goal.invariant-loop-before
invariant-loop-before l = list_any (λ b. brings_clash (view_said l.now) (said_by_either (view_said b) (view_said l.earlier))) (take l.before-index l.befores) ≡ false
