-- Two nodes of one unit, the second over the first.
use Rattle.std.proofs.Common.{[], ◌∷◌, ap₂, ◌∙◌, subst₂}
use Rattle.section_targets.proofs.Common.{IfOk-weaker, Builds, part}
use Rattle.bit_expr.specs.Folding.{make_and}
use Rattle.section_targets.proofs.Built.{kept_formula, kept_inside}
use Rattle.section_targets.proofs.OneUnit.{two_parts}
use Rattle.section_targets.proofs.nodes.guard_else.Goals as goal

pub add_node-requires-2 : goal.add_node-requires-2
add_node-requires-2 c = (
  kept_inside _ _ c.args.guard (c.in_ok-otherwise.ensures.builds []).made.grew.keeps c.requires.guard,
  c.in_ok-otherwise.ensures.bit.0,
)

pub returns-clause-bit : goal.returns-clause-bit
returns-clause-bit c =
    IfOk-weaker c.add_node-2.result _ _
    (λ id bit. (
      bit.0,
      bit.1 ∙ ap₂ (λ f g. (make_and f g).what) (kept_formula _ _ c.args.guard (c.in_ok-otherwise.ensures.builds []).made.grew.keeps c.requires.guard) c.in_ok-otherwise.ensures.bit.1,
    ))
    c.add_node-2.ensures.bit

pub returns-clause-builds : goal.returns-clause-builds
returns-clause-builds c = λ list.
    two_parts c.args.unit _ _ _ _ _ c.add_node-2.result (c.in_ok-otherwise.ensures.builds list)
    (subst₂ (λ f g. Builds (part c.args.unit (make_and f g).nodes ∷ []) [] [] (record { exprs = c.add_node.new.exprs; list = list }) (record { exprs = c.add_node-2.new.exprs; list = list }) c.add_node-2.result)
    (kept_formula _ _ c.args.guard (c.in_ok-otherwise.ensures.builds []).made.grew.keeps c.requires.guard) c.in_ok-otherwise.ensures.bit.1 (c.add_node-2.ensures.builds list))
