use Rattle.std.proofs.Common.{sym, ◌∙◌}
use Rattle.fuse_compare.proofs.Common.{reset_in}
use Rattle.fuse_compare.proofs.knowing.may_reset.Goals as goal

pub mask-requires : goal.mask-requires
mask-requires g c = reset_in g.D.Device.table g.D.Device.sound c.in-Some.row (sym c.reset.ensures ∙ c.in-Some.is)
