use Rattle.std.proofs.Common.{◌≡◌, ◌++◌, flat_map}
use Rattle.std.specs.List.{range_with_len}
use Rattle.abel_tree.specs.Entries.{entries_of}
use Rattle.design_drawings.specs.Equations.{assigned_item}
use Rattle.design_drawings.proofs.drawn_equations.put_equations.Given as goal

abbrev pub invariant-loop-cell : goal.invariant-loop-cell
invariant-loop-cell g l =
    l.page ≡ l.initial.page ++ flat_map (assigned_item g.D.Device.table l.design.file.now.fuses (entries_of l.design.names.now)) (range_with_len 0 l.cell)
