use Rattle.std.proofs.Common.{◌∙◌}
use Rattle.abel_tree.specs.Entries.{entries_of}
use Rattle.design_drawings.specs.Equations.{assigned_item}
use Rattle.design_drawings.proofs.Ranges.{next_text}
use Rattle.design_drawings.proofs.drawn_equations.put_equations.Goals as goal

pub loop-cell-preserved : goal.loop-cell-preserved
loop-cell-preserved g c =
    c.in_ok-put_if_assigned.ensures
    ∙ rw (c.loop-cell.invariant) (next_text (assigned_item g.D.Device.table c.args.design.file.now.fuses (entries_of c.args.design.names.now)) c.args.page.now c.loop-cell.cell)
