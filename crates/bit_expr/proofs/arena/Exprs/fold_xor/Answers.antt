use Rattle.std.proofs.Common.{◌+◌, Some, sym, ap, ◌∙◌, subst}
use Rattle.bit_expr.proofs.Common.{Formula, Made, Adds}
use Rattle.bit_expr.proofs.ArenaLists.{adds_there}
use Rattle.bit_expr.proofs.FoldingCases.{xor_one_left, xor_zero_left, xor_one_right, xor_zero_right, xor_makes}
use Rattle.bit_expr.proofs.arena.Exprs.fold_xor.Goals as goal

pub returns-then-on : goal.returns-then-on
returns-then-on c = subst (λ (m : Made Formula). Adds (c.args.most + 2) c.args.self.now c.fold_not.new.self c.fold_not.result m) (sym (xor_one_left _ _ (ap Some (sym c.if-on.true) ∙ c.in-Some.ensures))) c.fold_not.ensures

pub returns-else-on : goal.returns-else-on
returns-else-on c = adds_there _ _ c.args.b _ c.requires.b (xor_zero_left _ _ (ap Some (sym c.if-on.false) ∙ c.in-Some.ensures))

pub returns-then-on-2 : goal.returns-then-on-2
returns-then-on-2 c = subst (λ (m : Made Formula). Adds (c.args.most + 2) c.args.self.now c.fold_not-then-on-2.new.self c.fold_not-then-on-2.result m) (sym (xor_one_right _ _ (ap Some (sym c.if-on-2.true) ∙ c.in-Some-level.ensures))) c.fold_not-then-on-2.ensures

pub returns-else-on-2 : goal.returns-else-on-2
returns-else-on-2 c = adds_there _ _ c.args.a _ c.requires.a (xor_zero_right _ _ (ap Some (sym c.if-on-2.false) ∙ c.in-Some-level.ensures))

pub returns-in-None-level : goal.returns-in-None-level
returns-in-None-level c = subst (λ (m : Made Formula). Adds (c.args.most + 2) c.args.self.now c.store.new.self c.store.result m) (sym (xor_makes _ _ c.in-None.ensures c.in-None-level.ensures)) c.store.ensures
