use Rattle.std.proofs.Common.{◌+◌, ◌*◌, List, Bool, ap, ◌∙◌}
use Rattle.device_logic.proofs.Common.{is_on, row_fuses}
use Rattle.device_logic.proofs.PairedRows.{besides_pair}
use Rattle.device_logic.proofs.pairing.with_pair.Goals as goal

pub returns : goal.returns
returns g c =
    let fuses : List Bool = row_fuses g.D.Device.table c.args.fuses.now c.args.row in
    let lower = c.fuse_at-lower.ensures ∙ ap (λ pair. is_on fuses (2 * pair)) c.from.ensures in
    let higher = c.fuse_at-higher.ensures ∙ ap (λ pair. is_on fuses (2 * pair + 1)) c.from-2.ensures in
    besides_pair fuses c.args.pair c.args.cube c.with_column-with_lower.result c.with_column.result
    c.fuse_at-lower.result c.fuse_at-higher.result lower higher c.with_column-with_lower.ensures c.with_column.ensures
