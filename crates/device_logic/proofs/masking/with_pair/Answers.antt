use Rattle.device_logic.proofs.Walked.{pair_passes}
use Rattle.device_logic.proofs.masking.with_pair.Goals as goal

pub returns : goal.returns
returns g c =
    pair_passes g.D.Device.table c.args.fuses.now c.args.array.now c.args.row c.args.pair c.carry_of-carry.result c.requires.same c.carry_of-carry.ensures.found
    c.fuse_at-lower.result c.fuse_at-higher.result c.fuse_at-lower.ensures c.fuse_at-higher.ensures
    c.args.mask c.with_column-with_lower.result c.with_column.result c.with_column-with_lower.ensures c.with_column.ensures
