-- If neither cover fits the room, the smaller one is over it.
use Rattle.std.proofs.Common.{◌≡◌, ◌<◌, sym, ap, ◌∙◌, arith, subst}
use Rattle.fitter.proofs.Common.{get_or_from_slice_get, FitsRoom, cell_at, no_cell, Cell}
use Rattle.fitter.proofs.ToldCells.{fewest_over}
use Rattle.fitter.proofs.rooms.overfull_at.Goals as goal

pub returns-clause-over : goal.returns-clause-over
returns-clause-over g c =
    let tried = c.in-Err.tried in
    let over : c.from.result < c.in-Some.rows =
    fewest_over c.from.result tried.direct tried.inverted c.in-Some.rows (sym c.fewest.ensures ∙ c.in-Some.is)
    (λ fits. c.in-Err.ensures.2 (subst (FitsRoom c.from.result) c.in-Err.ensures.0 fits))
    (λ fits. c.in-Err.ensures.3 (subst (FitsRoom c.from.result) c.in-Err.ensures.1 fits)) in
    omega (arith, over, c.from.ensures)

pub returns-clause-told : goal.returns-clause-told
returns-clause-told g c =
    let here = get_or_from_slice_get g.D.Device.table.cells c.args.cell c.cell-found.result no_cell c.cell-found.ensures in
    let room : c.from.result ≡ (cell_at g.D.Device.table c.args.cell).room = c.from.ensures ∙ sym (ap (λ (x : Cell). x.room) here) in
    record {
      tried = c.in-Err.tried;
      is_over = record {
        direct_is = c.in-Err.ensures.0;
        inverted_is = c.in-Err.ensures.1;
        direct = λ fits. c.in-Err.ensures.2 (subst (λ n. FitsRoom n c.args.covers.tried.direct) (sym room) fits);
        inverted = λ fits. c.in-Err.ensures.3 (subst (λ n. FitsRoom n c.args.covers.tried.inverted) (sym room) fits);
      };
      tells = record {
        pin = sym (ap (λ (x : Cell). x.pin) here);
        room = sym (ap (λ (x : Cell). x.room) here);
        rows = sym c.fewest.ensures ∙ c.in-Some.is;
      };
    }
