use Rattle.std.proofs.Common.{◌≡◌, ◌<◌, length, subst, arith}
use Rattle.device_logic.proofs.PairedRows.{CubeBelow, cube_more, cube_none, live_cube}
use Rattle.device_logic.proofs.pairing.live_cube.Goals as goal

pub loop-pair-init : goal.loop-pair-init
loop-pair-init g c = cube_none g.D.Device.table c.args.fuses.now c.args.row c.full-cube.result c.full-cube.ensures.is

pub loop-pair-preserved : goal.loop-pair-preserved
loop-pair-preserved g c =
    let within : c.loop-pair.pair < length g.D.Device.table.pairs = omega (arith, c.loop-pair-test.true, c.pair_count-pair-end.ensures) in
    cube_more g.D.Device.table c.args.fuses.now c.args.row c.loop-pair.pair c.loop-pair.cube c.with_pair-cube.result within c.loop-pair.invariant c.with_pair-cube.ensures

pub returns : goal.returns
returns g c =
    let t = g.D.Device.table in
    let all : c.loop-pair.pair ≡ length t.pairs = omega (arith, c.loop-pair-test.false, c.pair_count-pair-end.ensures) in
    live_cube t g.D.Device.sound c.args.fuses.now c.args.row c.requires.size c.requires.row c.loop-pair.cube
    (subst (λ n. CubeBelow t c.args.fuses.now c.args.row n c.loop-pair.cube) all c.loop-pair.invariant) c.requires.live
