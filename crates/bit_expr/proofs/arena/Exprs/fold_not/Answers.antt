use Rattle.std.proofs.Common.{◌+◌, not, sym, subst, arith}
use Rattle.bit_expr.proofs.Common.{Formula, Made, Adds}
use Rattle.bit_expr.proofs.ArenaLists.{adds_there, adds_level}
use Rattle.bit_expr.proofs.FoldingCases.{not_constant, not_inner, not_makes}
use Rattle.bit_expr.proofs.arena.Exprs.fold_not.Goals as goal

pub returns-in-Some : goal.returns-in-Some
returns-in-Some c = adds_level _ _ c.constant.result (not c.in-Some.on) _ c.constant.ensures (not_constant _ _ c.in-Some.ensures)

pub returns-in-Some-inner : goal.returns-in-Some-inner
returns-in-Some-inner c = adds_there _ _ c.in-Some-inner.inner _ (omega (arith, c.in-Some-inner.ensures.earlier)) (not_inner _ _ c.in-Some-inner.ensures.formula)

pub returns-in-None : goal.returns-in-None
returns-in-None c = subst (λ (m : Made Formula). Adds (c.args.most + 2) c.args.self.now c.store.new.self c.store.result m) (sym (not_makes _ c.in_default.ensures c.in-None.ensures.formula)) c.store.ensures
