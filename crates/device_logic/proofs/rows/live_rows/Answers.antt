use Rattle.std.proofs.Common.{sym, ◌∙◌, zero-add}
use Rattle.device_logic.proofs.Common.{map-range_with_len_more, is_live}
use Rattle.device_logic.proofs.rows.live_rows.Goals as goal

pub loop-row-preserved : goal.loop-row-preserved
loop-row-preserved g c =
    c.in_ok-push.ensures.items
    ∙ (rw (c.loop-row.invariant, c.is_live.ensures) (sym (map-range_with_len_more (is_live g.D.Device.table c.args.fuses.now) 0 c.loop-row.row c.loop-row.row (zero-add c.loop-row.row))))
