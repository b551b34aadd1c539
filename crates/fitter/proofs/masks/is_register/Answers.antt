use Rattle.std.proofs.Common.{false, sym, ap, ◌∙◌, Option}
use Rattle.fitter.proofs.Common.{option_map, get_or_from_slice_get, Cell, stores_by, cell_at, no_cell, CellWanted, arena, plain_wanted, registers_as}
use Rattle.fitter.proofs.TurnBits.{stores_is}
use Rattle.fitter.proofs.masks.is_register.Goals as goal

pub returns-in-Some : goal.returns-in-Some
returns-in-Some g c =
    let t = g.D.Device.table in
    sym (stores_is t c.args.net.now c.args.cell
    ∙ ap (λ (o : Option CellWanted). registers_as (cell_at t c.args.cell).kinds (option_map (plain_wanted (arena c.args.net.now.exprs)) o)) (sym c.cell_wanted.ensures ∙ c.in-Some.is))

pub returns-in-None : goal.returns-in-None
returns-in-None g c =
    let t = g.D.Device.table in
    c.must_register.ensures
    ∙ (ap (λ (x : Cell). stores_by x.kinds false) (sym (get_or_from_slice_get t.cells c.args.cell c.cell.result no_cell c.cell.ensures))
    ∙ sym (stores_is t c.args.net.now c.args.cell
    ∙ ap (λ (o : Option CellWanted). registers_as (cell_at t c.args.cell).kinds (option_map (plain_wanted (arena c.args.net.now.exprs)) o)) (sym c.cell_wanted.ensures ∙ c.in-None.is)))
