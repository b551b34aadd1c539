use Rattle.std.proofs.Common.{◌≡◌, ◌≤◌, ◌+◌, ◌*◌, length, subst, sym, arith}
use Rattle.fuse_compare.proofs.Common.{IsGroupCover}
use Rattle.covers.specs.Pool.{Pool}
use Rattle.fuse_compare.proofs.Covered.{covers_all, covers_none, covers_passed, covers_taken}
use Rattle.fuse_compare.proofs.GroupCovers.{covered_row}
use Rattle.fuse_compare.proofs.own_rows.with_own.Goals.{then-not-has_cube+in_ok-push, else-not-has_cube}
use Rattle.fuse_compare.proofs.own_rows.with_own.Goals as goal

pub loop-row-init : goal.loop-row-init
loop-row-init g c = record {
  below = covers_none g.D.Device.table c.args.a.now.fuses c.args.b.now.fuses c.args.rows c.args.own.items;
  cover = c.in_ok-cover.ensures.cover;
  spare = c.in_ok-cover.ensures.spare;
}

pub has_cube-requires-clause-cover : goal.has_cube-requires-clause-cover
has_cube-requires-clause-cover g c = c.loop-row.invariant.cover.below

pub has_cube-requires-clause-spare : goal.has_cube-requires-clause-spare
has_cube-requires-clause-spare g c = c.loop-row.invariant.spare

pub loop-row-preserved : goal.loop-row-preserved
loop-row-preserved g c =
    let t = g.D.Device.table in
    let a = c.args.a.now.fuses in
    let b = c.args.b.now.fuses in
    let rows = c.args.rows in
    let own = c.args.own.items in
    let more = c.loop-row.more.items in
    let invariant = c.loop-row.invariant in
    let cover = subst (λ (pool : Pool). IsGroupCover t b rows pool.cubes) (sym c.has_cube.ensures.same) invariant.cover in
    let spare = subst (λ (pool : Pool). 24 * length pool.cubes + 24 ≤ pool.spare) (sym c.has_cube.ensures.same) invariant.spare in
    elim c.if-not-has_cube.branch [
      | then-not-has_cube+in_ok-push w ↦ record {
        below = rw (w.more-is, w.in_ok-push.ensures.items) (covers_taken t a b rows c.loop-row.row own more invariant.below w.mask.result w.mask.ensures);
        cover = cover;
        spare = spare;
      }
      | else-not-has_cube w ↦ record {
        below = rw w.more-is
            (covers_passed t a b rows c.loop-row.row own more invariant.below
            (covered_row t g.D.Device.sound a b c.requires.same rows c.loop-row.row c.loop-row.cover.cubes c.cube.result invariant.cover c.cube.ensures
            (c.has_cube.ensures.answer.0 w.if-not-has_cube.false)));
        cover = cover;
        spare = spare;
      }
    ]

pub returns : goal.returns
returns g c =
    let end : c.loop-row.row ≡ c.args.rows.first + c.args.rows.room = omega (arith, c.from.ensures) in
    covers_all g.D.Device.table c.args.a.now.fuses c.args.b.now.fuses c.args.rows c.loop-row.row c.args.own.items c.loop-row.more.items end c.loop-row.invariant.below
