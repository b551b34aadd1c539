use Rattle.std.proofs.Common.{◌+◌, subst, sym}
use Rattle.device_logic.proofs.Common.{IsMask}
use Rattle.device_logic.proofs.Walked.{EachBelow, each_more}
use Rattle.device_logic.proofs.masking.row_masks.Goals as goal

pub loop-row-preserved : goal.loop-row-preserved
loop-row-preserved g c =
    let t = g.D.Device.table in
    subst (EachBelow (IsMask t c.args.fuses.now) (c.loop-row.row + 1)) (sym c.in_ok-push.ensures.items)
    (each_more (IsMask t c.args.fuses.now) c.loop-row.row c.loop-row.masks.items c.mask_of.result c.loop-row.invariant
    (subst (λ fuses. IsMask t fuses c.loop-row.row c.mask_of.result) c.levels.ensures c.mask_of.ensures))
