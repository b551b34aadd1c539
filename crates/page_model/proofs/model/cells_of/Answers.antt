use Rattle.std.proofs.Common.{sym, ◌∙◌, zero-add}
use Rattle.std.proofs.lemmas.List.FromFn.{map-range_with_len_more}
use Rattle.abel_tree.specs.Entries.{entries_of}
use Rattle.page_model.specs.Cells.{cell_facts}
use Rattle.page_model.proofs.model.cells_of.Goals as goal

pub loop-cell-preserved : goal.loop-cell-preserved
loop-cell-preserved g c =
    c.in_ok-push.ensures.items
    ∙ (rw (c.loop-cell.invariant, c.cell_facts.ensures)
    (sym (map-range_with_len_more (cell_facts g.D.Device.table c.args.array.now (entries_of c.args.names.now)) 0 c.loop-cell.cell c.loop-cell.cell (zero-add c.loop-cell.cell))))
