-- What isn't refused has a shape.
use Rattle.std.proofs.Common.{◌≡◌, Option, None, Some, refl, subst}
use Rattle.truth_tables.proofs.Common.{entries_of, view, expression_found, HasShapeIf, Value}
use Rattle.truth_tables.proofs.PartLaws.{over_shape}
use Rattle.truth_tables.proofs.part.shape_of.Goals as goal

pub returns : goal.returns
returns c d is =
    let t = view c.args.expr.now in
    over_shape c.args.scope.now d is t c.in-Some.shape c.requires (subst (λ o. HasShapeIf o (expression_found (entries_of c.args.scope.now) t).value) c.in-Some.is c.in_ok-found.ensures.shape)

unshaped : (v : Option Value) → (v ≡ None → ⊥) → HasShapeIf None v → ⊥
unshaped None h k = h refl
unshaped (Some v) h k = k

pub unreachable-requires : goal.unreachable-requires
unreachable-requires c =
    let f = expression_found (entries_of c.args.scope.now) (view c.args.expr.now) in
    unshaped f.value (c.in_ok-found.ensures.valued c.requires) (subst (λ o. HasShapeIf o f.value) c.in-None.is c.in_ok-found.ensures.shape)
