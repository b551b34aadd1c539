use Rattle.std.proofs.Common.{◌∙◌, ap, arith, length}
use Rattle.covers.proofs.Common.{length_push}
use Rattle.covers.proofs.MovedRows.{copy_more}
use Rattle.covers.proofs.moving.copy_rows.Goals as goal

pub loop-place-preserved : goal.loop-place-preserved
loop-place-preserved c =
    let before = c.loop-place.invariant in
    let long = ap length c.push.ensures.cubes ∙ length_push c.loop-place.pool.cubes c.cube_at-row.result in
    record {
      to = before.to;
      from = omega arith;
      copied = c.push.ensures.cubes ∙ copy_more c.args.pool.now.cubes c.loop-place.pool.cubes c.args.from c.loop-place.place c.cube_at-row.result before.from (omega arith) before.copied c.cube_at-row.ensures;
      spare = omega (arith, long, before.spare, c.push.ensures.spare);
    }
