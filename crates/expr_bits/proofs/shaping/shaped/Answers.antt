-- The shape and the positions are those of the bits.
use Rattle.std.proofs.Common.{ap₂, ◌∙◌}
use Rattle.expr_bits.proofs.Common.{shown_ids}
use Rattle.expr_bits.proofs.Shaped.{shaped_is}
use Rattle.expr_bits.proofs.shaping.shaped.Goals as goal

pub returns : goal.returns
returns c fs v w is blank =
    shaped_is fs c.args.bits.now _ v w c.shape_of-shape.ensures
    (c.from_vec.ensures ∙ c.in_ok-places.ensures ∙ ap₂ (λ ids xs. shown_ids ids xs) c.as_slice.ensures c.as_slice-2.ensures)
    is blank
