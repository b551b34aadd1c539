-- All else is moved.
use Rattle.std.proofs.Common.{List, ◌++◌, map, ap, ap₂, ◌∙◌}
use Rattle.placer.proofs.Common.{Declaration, SectionTree, view_module, view_section, view_stmt, with_equations}
use Rattle.placer.proofs.pins.PlacedPins.placed_module.Goals as goal

pub returns : goal.returns
returns c = λ known.
    ap₂ (λ (ds : List Declaration) (xs : List SectionTree). record (view_module c.args.source) { decls = ds; sections = xs }) (c.in_ok-placed.ensures known)
    (ap (map view_section) c.from_vec.ensures ∙ (c.in_ok-whole.ensures ∙ ap (λ (xs : List SectionTree). xs ++ with_equations (map view_stmt c.args.released.items)) (c.in_ok-parts.ensures known)))
