-- The items so far.
use Rattle.std.proofs.Common.{fold, map, take}
use Rattle.decls.proofs.Common.{view_part, part_step, Follows, Way, Progress}
use Rattle.decls.proofs.pass.Pass.use_parts.Given as goal

abbrev pub invariant-loop-part : goal.invariant-loop-part
invariant-loop-part l = (t : Way) (s : Progress) → Follows t l.fn.self s → Follows t l.self (fold part_step s (map view_part (take l.part-index l.parts)))
