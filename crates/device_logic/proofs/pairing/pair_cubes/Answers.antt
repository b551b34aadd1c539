use Rattle.std.proofs.Common.{◌+◌, subst, sym}
use Rattle.device_logic.proofs.Common.{IsPairCube}
use Rattle.device_logic.proofs.Walked.{EachBelow, each_more}
use Rattle.device_logic.proofs.pairing.pair_cubes.Goals as goal

pub loop-row-preserved : goal.loop-row-preserved
loop-row-preserved g c =
    let t = g.D.Device.table in
    subst (EachBelow (IsPairCube t c.args.fuses.now) (c.loop-row.row + 1)) (sym c.in_ok-push.ensures.items)
    (each_more (IsPairCube t c.args.fuses.now) c.loop-row.row c.loop-row.cubes.items c.cube_of.result c.loop-row.invariant
    (subst (λ fuses. IsPairCube t fuses c.loop-row.row c.cube_of.result) c.levels.ensures c.cube_of.ensures))
