use Rattle.std.proofs.Common.{◌≡◌, ◌+◌, [], ◌∷◌, sym, subst, arith, length-append}
use Rattle.fuse_compare.proofs.GroupCovers.{CoverBelow, cover_all, cover_more, cover_none}
use Rattle.fuse_compare.proofs.group_covers.group_cover.Goals as goal

pub loop-row-init : goal.loop-row-init
loop-row-init g c = record {
  below = cover_none g.D.Device.table c.args.logic.now.fuses c.args.rows c.in_ok-pool.pool.cubes c.in_ok-pool.ensures.cubes;
  spare = omega (arith, c.in_ok-pool.ensures.spare, c.from.ensures);
}

pub push-requires : goal.push-requires
push-requires g c =
    let invariant = c.loop-row.invariant in
    omega (arith, invariant.spare, invariant.below.count, c.loop-row-test.true)

pub loop-row-preserved : goal.loop-row-preserved
loop-row-preserved g c =
    let t = g.D.Device.table in
    let invariant = c.loop-row.invariant in
    let cubes = c.loop-row.pool.cubes in
    let long = length-append cubes (c.cube.result ∷ []) in
    record {
      below = subst (CoverBelow t c.args.logic.now.fuses c.args.rows (c.loop-row.row + 1)) (sym c.push.ensures.cubes)
          (cover_more t c.args.logic.now.fuses c.args.rows c.loop-row.row cubes c.cube.result invariant.below c.cube.ensures);
      spare = rw c.push.ensures.cubes (omega (arith, invariant.spare, c.push.ensures.spare, long));
    }

pub returns-clause-cover : goal.returns-clause-cover
returns-clause-cover g c =
    let end : c.loop-row.row ≡ c.args.rows.first + c.args.rows.room = omega (arith, c.from.ensures) in
    (cover_all g.D.Device.table c.args.logic.now.fuses c.args.rows c.loop-row.row c.loop-row.pool.cubes end c.loop-row.invariant.below).1

pub returns-clause-spare : goal.returns-clause-spare
returns-clause-spare g c =
    let end : c.loop-row.row ≡ c.args.rows.first + c.args.rows.room = omega (arith, c.from.ensures) in
    let count = (cover_all g.D.Device.table c.args.logic.now.fuses c.args.rows c.loop-row.row c.loop-row.pool.cubes end c.loop-row.invariant.below).0 in
    omega (arith, count, c.loop-row.invariant.spare)
