use Rattle.std.proofs.Common.{get_or, ap, ◌∙◌}
use Rattle.device_logic.proofs.Common.{row_value, OrderedFuses, holds, RowMask}
use Rattle.device_logic.proofs.logic.DeviceLogic.mask.Goals as goal

pub returns : goal.returns
returns g c = λ at is.
    ap (λ (m : RowMask). holds m at) c.index.ensures
    ∙ (ap (λ k. holds (get_or c.self.inside.masks.items k c.index.result.now) at) c.from.ensures
    ∙ (c.self.invariant.masked.each c.args.row c.index.result.now c.requires at is
    ∙ ap (λ (l : OrderedFuses). row_value g.D.Device.table l.fuses at c.args.row) c.self.view_is))
