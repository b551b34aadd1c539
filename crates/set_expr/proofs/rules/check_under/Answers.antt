use Rattle.std.proofs.Common.{◌++◌, refl, ◌∙◌}
use Rattle.set_expr.proofs.Common.{unary_value, value_or_none}
use Rattle.set_expr.proofs.SummedUp.{first_both, left_empty, shape_of_value}
use Rattle.set_expr.proofs.rules.check_under.Goals as goal

pub returns : goal.returns
returns c f s =
    c.settled.ensures (f.refusals ++ f.specials) _ (unary_value c.args.sign (value_or_none f.value))
    (c.earlier.ensures ∙ first_both c.args.inner.fault c.args.inner.special f.refusals f.specials s.fault s.special)
    refl
    (λ e. shape_of_value c.args.sign c.args.inner.shape c.shape_under-shape.result f.value (s.valued (left_empty f.refusals f.specials e)) s.shape c.shape_under-shape.ensures)
