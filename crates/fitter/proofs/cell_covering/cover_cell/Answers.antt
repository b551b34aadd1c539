use Rattle.std.proofs.Common.{true, length, Err, inl, refl, sym, ◌∙◌, subst}
use Rattle.fitter.proofs.Common.{err_from_is_err_and, ExprId, cell_at, IsSoundId, PlansRows, control_function, HasRows}
use Rattle.fitter.proofs.Widths.{can_cover, cell_handed, enable_fails, function_wide, own_room, preset_fails, reset_fails, tried_over}
use Rattle.fitter.proofs.cell_covering.cover_cell.Goals as goal

pub try_cell-requires : goal.try_cell-requires
try_cell-requires g c =
    can_cover g.D.Device.table g.D.Device.sound c.args.fit.now.over.net.now c.requires.sound c.args.wanted.function c.args.fit.now.over.vars c.args.fit.now.pairs c.requires.can.one c.requires.can.any

pub returns-then-has_none : goal.returns-then-has_none
returns-then-has_none g c =
    let none = c.has_none.ensures.none c.if-has_none.true in
    let room_is = own_room g.D.Device.table.cells c.args.wanted.cell c.cell-room.result c.cell-room.ensures in
    let tried = tried_over g.D.Device.table c.args.fit.now.over.turned c.args.fit.now.over.net.now c.args.wanted c.in_ok-tried.tried c.args.fit.now.over.flip c.cell-room.result.room c.args.fit.now.over.vars
    c.args.fit.now.flip room_is c.args.fit.now.pairs c.in_ok-tried.ensures in
    inl (function_wide g.D.Device.table (cell_at g.D.Device.table c.args.wanted.cell).room c.args.fit.now.over.turned c.args.fit.now.over.net.now c.args.wanted c.in_ok-tried.tried.direct c.in_ok-tried.tried.inverted tried.direct tried.inverted none.0 none.1)

pub control_rows-requires-clause-id : goal.control_rows-requires-clause-id
control_rows-requires-clause-id g c = subst (IsSoundId g.D.Device.table c.args.fit.now.over.net.now) (sym c.enable_bit.ensures) c.requires.can.enable

pub returns-in_err-enable : goal.returns-in_err-enable
returns-in_err-enable g c =
    cell_handed g.D.Device.table c.args.fit.now.over.turned c.args.fit.now.over.net.now c.args.wanted c.from_residual-in_err-enable.result _
    (err_from_is_err_and c.from_residual-in_err-enable.result c.from_residual-in_err-enable.ensures.1)
    (enable_fails g.D.Device.table c.args.fit.now.over.turned c.args.fit.now.over.net.now c.args.wanted c.in_err-enable.field-0.0
    (subst (λ (b : ExprId). HasRows g.D.Device.table c.args.fit.now.over.turned c.args.fit.now.over.net.now b (Err c.in_err-enable.field-0.0)) c.enable_bit.ensures c.in_err-enable.ensures))

pub returns-in_err-listed : goal.returns-in_err-listed
returns-in_err-listed g c =
    cell_handed g.D.Device.table c.args.fit.now.over.turned c.args.fit.now.over.net.now c.args.wanted c.from_residual-in_err-listed.result _
    (err_from_is_err_and c.from_residual-in_err-listed.result c.from_residual-in_err-listed.ensures.1)
    (reset_fails g.D.Device.table c.args.fit.now.over.turned c.args.fit.now.over.net.now c.args.wanted _ c.in_err-listed.ensures)

pub returns-in_err-listed-2 : goal.returns-in_err-listed-2
returns-in_err-listed-2 g c =
    cell_handed g.D.Device.table c.args.fit.now.over.turned c.args.fit.now.over.net.now c.args.wanted c.from_residual-in_err-listed-2.result _
    (err_from_is_err_and c.from_residual-in_err-listed-2.result c.from_residual-in_err-listed-2.ensures.1)
    (preset_fails g.D.Device.table c.args.fit.now.over.turned c.args.fit.now.over.net.now c.args.wanted _ c.in_err-listed-2.ensures)

pub returns : goal.returns
returns g c = record {
  wanted = refl;
  tried = tried_over g.D.Device.table c.args.fit.now.over.turned c.args.fit.now.over.net.now c.args.wanted c.in_ok-tried.tried c.args.fit.now.over.flip c.cell-room.result.room c.args.fit.now.over.vars
      c.args.fit.now.flip (own_room g.D.Device.table.cells c.args.wanted.cell c.cell-room.result c.cell-room.ensures) c.args.fit.now.pairs c.in_ok-tried.ensures;
  some = λ direct inverted. c.has_none.ensures.some c.if-has_none.false direct inverted;
  enable = subst (λ (b : ExprId). PlansRows (length g.D.Device.table.pairs) c.args.fit.now.over.turned c.args.fit.now.over.net.now (control_function b) true c.in_ok-enable.enable.items) c.enable_bit.ensures c.in_ok-enable.ensures;
  reset = c.in_ok-listed.ensures;
  preset = c.in_ok-listed-2.ensures;
}
