use Rattle.std.proofs.Common.{◌≡◌, length, subst, arith}
use Rattle.device_logic.proofs.Common.{holds}
use Rattle.device_logic.proofs.Walked.{PassesBelow, passes_more, passes_row}
use Rattle.device_logic.proofs.masking.live_mask.Goals as goal

pub loop-pair-preserved : goal.loop-pair-preserved
loop-pair-preserved g c =
    passes_more g.D.Device.table c.args.fuses.now c.args.row c.loop-pair.pair (holds c.loop-pair.mask) (holds c.with_pair-mask.result) c.loop-pair.invariant c.with_pair-mask.ensures

pub returns : goal.returns
returns g c =
    let t = g.D.Device.table in
    let all : c.loop-pair.pair ≡ length t.pairs = omega (arith, g.D.Device.sound.sizes.columns_even) in
    passes_row t g.D.Device.sound c.args.fuses.now c.args.row c.requires.size c.requires.row (holds c.loop-pair.mask)
    (subst (λ n. PassesBelow t c.args.fuses.now c.args.row n (holds c.loop-pair.mask)) all c.loop-pair.invariant) c.requires.live
