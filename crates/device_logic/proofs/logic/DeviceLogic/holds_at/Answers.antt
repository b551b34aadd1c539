use Rattle.std.proofs.Common.{ap, ◌∙◌}
use Rattle.device_logic.proofs.Common.{levels_of, row_value, OrderedFuses, holds, RowMask}
use Rattle.device_logic.proofs.MaskedRows.{is_point}
use Rattle.device_logic.proofs.logic.DeviceLogic.holds_at.Goals as goal

pub returns : goal.returns
returns g c =
    let at = levels_of c.args.at.now in
    c.holds.ensures
    ∙ (ap (λ (m : RowMask). holds m at) c.index.ensures
    ∙ (c.self.invariant.masked.each c.args.row c.index.result.now c.requires at (is_point c.args.at.now)
    ∙ ap (λ (l : OrderedFuses). row_value g.D.Device.table l.fuses at c.args.row) c.self.view_is))
