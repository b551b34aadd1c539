use Rattle.std.proofs.Common.{get_or, ◌∙◌, ap, arith}
use Rattle.device_logic.proofs.Common.{is_live}
use Rattle.device_logic.proofs.LiveRows.{live_length, live_at}
use Rattle.device_logic.proofs.array.FuseArray.is_live.Goals as goal

pub index-requires : goal.index-requires
index-requires g c = omega (arith, live_length g.D.Device.table c.self.inside.fuses.items c.self.inside.live.items c.self.invariant)

pub returns-clause-live : goal.returns-clause-live
returns-clause-live g c =
    c.index.ensures
    ∙ (ap (λ k. get_or c.self.inside.live.items k c.index.result.now) c.from.ensures
    ∙ (live_at g.D.Device.table c.self.inside.fuses.items c.self.inside.live.items c.args.row c.index.result.now c.self.invariant c.requires
    ∙ ap (λ fuses. is_live g.D.Device.table fuses c.args.row) c.self.view_is))
