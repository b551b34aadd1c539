-- A literal, plain or complemented.
use Rattle.std.proofs.Common.{[], ◌∷◌, Some, sym, ap, ◌∙◌, subst₂}
use Rattle.truth_tables.proofs.Common.{arena, formula_at, BuildsNodes, part, position_literal}
use Rattle.truth_tables.proofs.inputs.with_position.Goals as goal

pub returns-then-on-clause-builds : goal.returns-then-on-clause-builds
returns-then-on-clause-builds c =
    let ns = c.args.exprs.now in
    subst₂ (λ p l. BuildsNodes (part c.args.unit (position_literal (arena ns) (formula_at (arena ns) c.args.found) p l).nodes ∷ []) ns c.add_node.new.exprs c.add_node.result)
    (sym c.in-Some-Some.is-0) (sym (c.in-Some-Some.is-1 ∙ ap Some c.if-on.true)) c.add_node.ensures.builds

pub returns-else-on-clause-builds : goal.returns-else-on-clause-builds
returns-else-on-clause-builds c =
    let ns = c.args.exprs.now in
    subst₂ (λ p l. BuildsNodes (part c.args.unit (position_literal (arena ns) (formula_at (arena ns) c.args.found) p l).nodes ∷ []) ns c.guard_else.new.exprs c.guard_else.result)
    (sym c.in-Some-Some.is-0) (sym (c.in-Some-Some.is-1 ∙ ap Some c.if-on.false)) c.guard_else.ensures.builds
