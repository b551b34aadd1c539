use Rattle.std.proofs.Common.{◌≡◌, true, sym, ◌∙◌, ap}
use Rattle.device_logic.proofs.Common.{row_fuses, is_connected, is_live}
use Rattle.device_logic.proofs.PairWalks.{row_connected}
use Rattle.device_logic.proofs.array.FuseArray.row_reads.Goals as goal

pub returns-then-is_live : goal.returns-then-is_live
returns-then-is_live g c =
    let same : c.deref.result.now ≡ c.args.self.now = c.deref.ensures.value ∙ c.self.view_is in
    let live : is_live g.D.Device.table c.args.self.now c.args.row ≡ true = sym c.is_live.ensures.live ∙ c.if-is_live.true in
    c.is_connected.ensures
    ∙ (ap (λ fuses. is_connected (row_fuses g.D.Device.table fuses c.args.row) c.args.pair) same
    ∙ sym (rw live (row_connected g.D.Device.table c.args.self.now c.args.row g.D.Device.sound.sizes.columns_even g.D.Device.sound.sizes.array_fits c.is_live.ensures.size c.requires.row c.args.pair c.requires.pair)))
