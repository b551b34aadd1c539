use Rattle.std.proofs.Common.{◌+◌, Some, true, sym, ap, ◌∙◌, subst}
use Rattle.bit_expr.proofs.Common.{Formula, Made, Adds}
use Rattle.bit_expr.proofs.ArenaLists.{adds_there, adds_level}
use Rattle.bit_expr.proofs.FoldingCases.{or_one_left, or_zero_left, or_one_right, or_zero_right, or_makes}
use Rattle.bit_expr.proofs.arena.Exprs.fold_or.Goals as goal

pub returns-then-on : goal.returns-then-on
returns-then-on c = adds_level _ _ c.constant.result true _ c.constant.ensures (or_one_left _ _ (ap Some (sym c.if-on.true) ∙ c.in-Some.ensures))

pub returns-else-on : goal.returns-else-on
returns-else-on c = adds_there _ _ c.args.b _ c.requires.b (or_zero_left _ _ (ap Some (sym c.if-on.false) ∙ c.in-Some.ensures))

pub returns-then-on-2 : goal.returns-then-on-2
returns-then-on-2 c = adds_level _ _ c.constant-then-on-2.result true _ c.constant-then-on-2.ensures (or_one_right _ _ (ap Some (sym c.if-on-2.true) ∙ c.in-Some-level.ensures))

pub returns-else-on-2 : goal.returns-else-on-2
returns-else-on-2 c = adds_there _ _ c.args.a _ c.requires.a (or_zero_right _ _ (ap Some (sym c.if-on-2.false) ∙ c.in-Some-level.ensures))

pub returns-in-None-level : goal.returns-in-None-level
returns-in-None-level c = subst (λ (m : Made Formula). Adds (c.args.most + 2) c.args.self.now c.store.new.self c.store.result m) (sym (or_makes _ _ c.in-None.ensures c.in-None-level.ensures)) c.store.ensures
