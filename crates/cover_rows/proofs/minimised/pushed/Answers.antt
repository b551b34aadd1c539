use Rattle.std.proofs.Common.{arith}
use Rattle.covers.proofs.ExpandedRows.{kept_long, rows_so_far}
use Rattle.covers.proofs.GrownPools.{front_inside, grown_below}
use Rattle.cover_rows.proofs.minimised.pushed.Goals as goal

pub returns-clause-allowed_below : goal.returns-clause-allowed_below
returns-clause-allowed_below c =
    rw (rows_so_far c.push_points-2.new.pool.cubes c.len-from.result c.len-to.result c.len-to.ensures, c.len-from.ensures)
    (grown_below c.args.vars c.args.pool.now.cubes c.push_points.new.pool.cubes c.push_points-2.new.pool.cubes c.push_points.ensures.kept c.push_points-2.ensures.kept c.push_points.ensures.below c.push_points-2.ensures.below)

pub returns-clause-inside : goal.returns-clause-inside
returns-clause-inside c =
    let first = kept_long c.args.pool.now.cubes c.push_points.new.pool.cubes c.push_points.ensures.kept in
    let second = kept_long c.push_points.new.pool.cubes c.push_points-2.new.pool.cubes c.push_points-2.ensures.kept in
    front_inside c.push_points-2.new.pool.cubes c.len-from.result c.len-middle.result c.len-to.result c.args.vars (omega (arith, first)) (omega (arith, second)) c.len-to.ensures
