use Rattle.std.proofs.Common.{rules, ◌≤◌, length, refl, sym, subst}
use Rattle.fitter.proofs.Common.{get_or_from_slice_get, Cell, no_cell, FitsRoom}
use Rattle.fitter.proofs.planning.chosen_rows.Goals as goal

pub returns-in-Ok : goal.returns-in-Ok
returns-in-Ok g c =
    let here = get_or_from_slice_get g.D.Device.table.cells c.args.cell c.cell.result no_cell c.cell.ensures in
    record {
      enable = search rules;
      registered = refl;
      list = c.in-Ok.chosen.rows;
      direct = c.in-Ok.ensures.1;
      inverted = λ on. (c.in-Ok.ensures.2 on).1;
      over = λ on fits. (c.in-Ok.ensures.2 on).0 (subst (λ (x : Cell). FitsRoom x.room c.args.covers.tried.direct) here fits);
      fit = subst (λ (x : Cell). length c.in-Ok.chosen.rows.items ≤ x.room) (sym here) c.in-Ok.ensures.0;
      rows_are = c.from_vec.ensures;
    }

pub returns : goal.returns
returns g c =
    let here = get_or_from_slice_get g.D.Device.table.cells c.args.cell c.cell.result no_cell c.cell.ensures in (
      refl,
      record {
        direct_is = c.in-Err.ensures.0;
        inverted_is = c.in-Err.ensures.1;
        direct = λ fits. c.in-Err.ensures.2 (subst (λ (x : Cell). FitsRoom x.room c.args.covers.tried.direct) here fits);
        inverted = λ fits. c.in-Err.ensures.3 (subst (λ (x : Cell). FitsRoom x.room c.args.covers.tried.inverted) here fits);
      },
    )
