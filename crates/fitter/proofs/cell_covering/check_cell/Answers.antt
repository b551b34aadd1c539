use Rattle.std.proofs.Common.{true, length, Bool, Err, Ok, ap, refl, sym, subst}
use Rattle.fitter.proofs.Common.{err_from_is_err_and, ExprId, IsSoundId, PlansRows, control_function, HasRows}
use Rattle.fitter.proofs.Widths.{checked_handed, enable_fails, preset_fails, reset_fails}
use Rattle.fitter.proofs.cell_covering.check_cell.Goals as goal

pub control_rows-requires-clause-id : goal.control_rows-requires-clause-id
control_rows-requires-clause-id g c = subst (IsSoundId g.D.Device.table c.args.fit.now.over.net.now) (sym c.enable_bit.ensures) c.requires.can.enable

pub returns-in_err-enable : goal.returns-in_err-enable
returns-in_err-enable g c =
    checked_handed g.D.Device.table c.args.fit.now.over.turned c.args.fit.now.over.net.now c.args.wanted c.from_residual-in_err-enable.result _
    (err_from_is_err_and c.from_residual-in_err-enable.result c.from_residual-in_err-enable.ensures.1)
    (enable_fails g.D.Device.table c.args.fit.now.over.turned c.args.fit.now.over.net.now c.args.wanted c.in_err-enable.field-0.0
    (subst (λ (b : ExprId). HasRows g.D.Device.table c.args.fit.now.over.turned c.args.fit.now.over.net.now b (Err c.in_err-enable.field-0.0)) c.enable_bit.ensures c.in_err-enable.ensures))

pub returns-in_err-listed : goal.returns-in_err-listed
returns-in_err-listed g c =
    checked_handed g.D.Device.table c.args.fit.now.over.turned c.args.fit.now.over.net.now c.args.wanted c.from_residual-in_err-listed.result _
    (err_from_is_err_and c.from_residual-in_err-listed.result c.from_residual-in_err-listed.ensures.1)
    (reset_fails g.D.Device.table c.args.fit.now.over.turned c.args.fit.now.over.net.now c.args.wanted _ c.in_err-listed.ensures)

pub returns-in_err-listed-2 : goal.returns-in_err-listed-2
returns-in_err-listed-2 g c =
    checked_handed g.D.Device.table c.args.fit.now.over.turned c.args.fit.now.over.net.now c.args.wanted c.from_residual-in_err-listed-2.result _
    (err_from_is_err_and c.from_residual-in_err-listed-2.result c.from_residual-in_err-listed-2.ensures.1)
    (preset_fails g.D.Device.table c.args.fit.now.over.turned c.args.fit.now.over.net.now c.args.wanted _ c.in_err-listed-2.ensures)

pub returns : goal.returns
returns g c = record {
  wanted = refl;
  form = c.in_ok-fits.ensures.fits (ap (λ (b : Bool). Ok b) c.if-not-fits.false);
  enable = subst (λ (b : ExprId). PlansRows (length g.D.Device.table.pairs) c.args.fit.now.over.turned c.args.fit.now.over.net.now (control_function b) true c.in_ok-enable.enable.items) c.enable_bit.ensures c.in_ok-enable.ensures;
  reset = c.in_ok-listed.ensures;
  preset = c.in_ok-listed-2.ensures;
}
