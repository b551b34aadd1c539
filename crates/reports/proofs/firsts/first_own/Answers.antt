use Rattle.std.proofs.Common.{List, ◌<◌, length, get_or, sym, ap, ap₂, subst, ◌∙◌}
use Rattle.reports.proofs.Common.{earlier, CellWanted, own_control, control_order}
use Rattle.reports.proofs.ControlOrder.{one_cell_more}
use Rattle.reports.proofs.firsts.first_own.Goals as goal

pub loop-wanted-preserved : goal.loop-wanted-preserved
loop-wanted-preserved c =
    let i = c.loop-wanted.wanted-index in
    let same = c.as_slice-wanted-items.ensures in
    let low : i < length c.args.net.now.cells = subst (λ (ws : List CellWanted). i < length ws) same c.loop-wanted-test.true in
    c.earlier-found.ensures
    ∙ (ap₂ (earlier control_order) c.loop-wanted.invariant (c.own_control.ensures ∙ ap (λ (ws : List CellWanted). own_control c.args.which (get_or ws i _)) same)
    ∙ sym (one_cell_more c.args.which c.args.net.now.cells i _ low))
