use Rattle.fitter.proofs.Common.{err_from_is_err_and, Preset, Reset, AreSharedRows}
use Rattle.fitter.proofs.Stops.{handed, preset_row_stops, preset_stops, reset_row_stops, reset_stops}
use Rattle.fitter.proofs.CoversInTurn.{all_listed}
use Rattle.fitter.proofs.shared_rows.shared_rows.Goals as goal

pub bit_of-requires-clause-listed : goal.bit_of-requires-clause-listed
bit_of-requires-clause-listed g c = all_listed g.D.Device.table c.args.fit.now.over.net.now c.requires.wide Reset

pub bit_of-requires-2-clause-listed : goal.bit_of-requires-2-clause-listed
bit_of-requires-2-clause-listed g c = all_listed g.D.Device.table c.args.fit.now.over.net.now c.requires.wide Preset

pub returns-in_err-reset_bit : goal.returns-in_err-reset_bit
returns-in_err-reset_bit g c =
    handed (AreSharedRows g.D.Device.table c.args.fit.now.over.turned c.args.fit.now.over.net.now) c.from_residual.result _ (err_from_is_err_and c.from_residual.result c.from_residual.ensures.1)
    (reset_stops g.D.Device.table c.args.fit.now.over.turned c.args.fit.now.over.net.now _ c.in_err-reset_bit.ensures)

pub returns-in_err-preset_bit : goal.returns-in_err-preset_bit
returns-in_err-preset_bit g c =
    handed (AreSharedRows g.D.Device.table c.args.fit.now.over.turned c.args.fit.now.over.net.now) c.from_residual-in_err-preset_bit.result _
    (err_from_is_err_and c.from_residual-in_err-preset_bit.result c.from_residual-in_err-preset_bit.ensures.1)
    (preset_stops g.D.Device.table c.args.fit.now.over.turned c.args.fit.now.over.net.now c.in_ok-reset_bit.reset_bit _ c.in_ok-reset_bit.ensures c.in_err-preset_bit.ensures)

pub returns-in_err-reset : goal.returns-in_err-reset
returns-in_err-reset g c =
    handed (AreSharedRows g.D.Device.table c.args.fit.now.over.turned c.args.fit.now.over.net.now) c.from_residual-in_err-reset.result _
    (err_from_is_err_and c.from_residual-in_err-reset.result c.from_residual-in_err-reset.ensures.1)
    (reset_row_stops g.D.Device.table c.args.fit.now.over.turned c.args.fit.now.over.net.now c.in_ok-reset_bit.reset_bit c.in_ok-preset_bit.preset_bit _ c.in_ok-reset_bit.ensures c.in_ok-preset_bit.ensures
    c.in_err-reset.ensures)

pub returns-in_err-preset : goal.returns-in_err-preset
returns-in_err-preset g c =
    handed (AreSharedRows g.D.Device.table c.args.fit.now.over.turned c.args.fit.now.over.net.now) c.from_residual-in_err-preset.result _
    (err_from_is_err_and c.from_residual-in_err-preset.result c.from_residual-in_err-preset.ensures.1)
    (preset_row_stops g.D.Device.table c.args.fit.now.over.turned c.args.fit.now.over.net.now c.in_ok-reset_bit.reset_bit c.in_ok-preset_bit.preset_bit c.in_ok-reset.reset _ c.in_ok-reset_bit.ensures
    c.in_ok-preset_bit.ensures c.in_ok-reset.ensures c.in_err-preset.ensures)
