-- The pieces are those of the left side.
use Rattle.design_drawings.specs.Equations.{target_item}
use Rattle.design_drawings.proofs.drawn_equations.put_target.Goals as goal

pub returns : goal.returns
unfolding target_item
returns g c =
    rw (c.deref.ensures.value, c.in_ok-text.ensures, c.assigns_complement-complement.ensures, c.bytes.ensures, c.sign.ensures, c.stores-is_register.ensures, c.levels.ensures)
    at c.put.ensures
