use Rattle.covers.proofs.GrownPools.{grown_below, grown_kept}
use Rattle.cover_rows.proofs.minimised.push_equal.Goals as goal

pub returns-then-not-push_below : goal.returns-then-not-push_below
returns-then-not-push_below c =
    let before = c.loop-number.invariant in
    record {
      kept = grown_kept c.args.pool.now.cubes c.loop-number.pool.cubes c.push_below.new.pool.cubes before.kept c.push_below.ensures.kept;
      below = grown_below 20 c.args.pool.now.cubes c.loop-number.pool.cubes c.push_below.new.pool.cubes before.kept c.push_below.ensures.kept before.below c.push_below.ensures.below;
    }

pub loop-number-preserved : goal.loop-number-preserved
loop-number-preserved c =
    let before = c.loop-number.invariant in
    record {
      kept = grown_kept c.args.pool.now.cubes c.loop-number.pool.cubes c.push_below.new.pool.cubes before.kept c.push_below.ensures.kept;
      below = grown_below 20 c.args.pool.now.cubes c.loop-number.pool.cubes c.push_below.new.pool.cubes before.kept c.push_below.ensures.kept before.below c.push_below.ensures.below;
    }
