use Rattle.std.proofs.Common.{ap, sym, ◌∙◌, arith}
use Rattle.device_logic.proofs.Common.{is_live}
use Rattle.device_logic.proofs.LiveRows.{dead_value}
use Rattle.device_logic.proofs.masking.mask_of.Goals as goal

pub returns-else-is_live : goal.returns-else-is_live
returns-else-is_live g c = λ at is.
    c.never.ensures at is
    ∙ sym (dead_value g.D.Device.table c.args.fuses.now c.args.row at (omega (arith, g.D.Device.sound.sizes.columns_even))
    (ap (λ fuses. is_live g.D.Device.table fuses c.args.row) (sym c.requires.same) ∙ (sym c.is_live.ensures.live ∙ c.if-is_live.false)))
