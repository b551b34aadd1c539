use Rattle.std.proofs.Common.{◌≡◌, ◌++◌, flat_map, take}
use Rattle.std.specs.Prelude.{codes}
use Rattle.abel_tree.specs.Entries.{entries_of}
use Rattle.design_drawings.specs.Equations.{product_item}
use Rattle.design_drawings.proofs.drawn_equations.put_others.Given as goal

abbrev pub invariant-loop-row : goal.invariant-loop-row
invariant-loop-row g l =
    l.page ≡ l.initial.page ++ flat_map (product_item g.D.Device.table l.design.file.now.fuses (entries_of l.design.names.now) (codes "# ")) (take l.row-index l.rows)
