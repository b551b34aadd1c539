use Rattle.covers.proofs.GrownPools.{grown_below, grown_kept}
use Rattle.cover_rows.proofs.minimised.push_points.Goals as goal

pub returns-then-not-push_below : goal.returns-then-not-push_below
returns-then-not-push_below c =
    let before = c.loop-point.invariant in
    record {
      kept = grown_kept c.args.pool.now.cubes c.loop-point.pool.cubes c.push_below.new.pool.cubes before.kept c.push_below.ensures.kept;
      below = grown_below c.args.vars c.args.pool.now.cubes c.loop-point.pool.cubes c.push_below.new.pool.cubes before.kept c.push_below.ensures.kept before.below c.push_below.ensures.below;
    }

pub loop-point-preserved : goal.loop-point-preserved
loop-point-preserved c =
    let before = c.loop-point.invariant in
    record {
      kept = grown_kept c.args.pool.now.cubes c.loop-point.pool.cubes c.push_below.new.pool.cubes before.kept c.push_below.ensures.kept;
      below = grown_below c.args.vars c.args.pool.now.cubes c.loop-point.pool.cubes c.push_below.new.pool.cubes before.kept c.push_below.ensures.kept before.below c.push_below.ensures.below;
    }
