use Rattle.std.proofs.Common.{◌≡◌, ◌++◌, refl, ◌∙◌}
use Rattle.set_expr.proofs.Common.{is_relation, first_refusal, specials_refused, operands_refused, value_of_both, section_order}
use Rattle.set_expr.proofs.SummedUp.{first_both, left_empty, right_empty, shape_of_values}
use Rattle.set_expr.proofs.rules.check_both.Goals as goal

pub returns : goal.returns
returns c f g s t =
    let sign = c.args.sign in
    let parts = f.refusals ++ g.refusals in
    let specials = specials_refused (is_relation sign) f.specials g.specials in
    let rules = operands_refused sign c.args.place f.value g.value in
    let operands : c.earlier-operands.result ≡ first_refusal section_order parts = c.earlier-operands.ensures ∙ first_both c.args.left.fault c.args.right.fault f.refusals g.refusals s.fault t.fault in
    let own : c.earlier-own.result ≡ first_refusal section_order (specials ++ rules) =
    c.earlier-own.ensures
    ∙ first_both _ _ specials rules (c.special_of_both-special.ensures f.specials g.specials s.special t.special) (c.operands_fault.ensures f.value g.value s.shape t.shape) in
    c.settled.ensures (parts ++ (specials ++ rules)) _ (value_of_both sign f.value g.value)
    (c.earlier.ensures ∙ first_both _ _ parts (specials ++ rules) operands own)
    refl
    (λ e.
    let clear = left_empty parts (specials ++ rules) e in
    shape_of_values sign c.args.left.shape c.args.right.shape c.shape_of_both-shape.result f.value g.value (s.valued (left_empty f.refusals g.refusals clear)) (t.valued (right_empty f.refusals g.refusals clear)) s.shape t.shape c.shape_of_both-shape.ensures)
