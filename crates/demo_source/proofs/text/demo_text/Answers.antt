use Rattle.std.proofs.Common.{◌≡◌, ◌∙◌, refl}
use Rattle.demo_source.proofs.Common.{equations_drawn}
use Rattle.demo_source.proofs.Lines.{is_demo_source}
use Rattle.demo_source.proofs.text.demo_text.Goals as goal

pub returns : goal.returns
returns c =
    let told = c.in_ok-put_vectors.ensures in
    let equations : c.deref-2.result.now ≡ equations_drawn c.args.seed = rw (c.deref-2.ensures.value, c.in_ok-equations.ensures.equations, c.from.ensures) refl in
    is_demo_source c.args.seed told.0 _
    (rw (equations, c.in_ok-equations.ensures.moved, c.from.ensures) at told.2)
    (c.in_ok-extend_from_slice-3.ensures.items
    ∙ rw (told.1, c.in_ok-extend_from_slice-2.ensures.items, c.in_ok-put_equations.ensures, c.in_ok-extend_from_slice.ensures.items, c.new-out.ensures.items, c.deref.ensures.value, c.in_ok-equations.ensures.equations, c.from.ensures) refl)
