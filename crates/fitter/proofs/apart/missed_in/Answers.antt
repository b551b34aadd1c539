use Rattle.std.proofs.Common.{get_or, slice_range, refl, ap, ◌∙◌}
use Rattle.fitter.proofs.Common.{full_cube}
use Rattle.covers.specs.Pool.{Pool}
use Rattle.fitter.proofs.MissedPoints.{all_covered, missed_at, none_covered, one_covered}
use Rattle.fitter.proofs.apart.missed_in.Goals as goal

pub loop-row-init : goal.loop-row-init
loop-row-init c = record { same = refl; covered = none_covered c.args.rows.now (slice_range c.args.pool.now.cubes c.args.cover.from c.args.cover.to) c.args.vars }

pub returns-in-Some-clause-answer : goal.returns-in-Some-clause-answer
returns-in-Some-clause-answer c =
    let same = ap (λ (p : Pool). p.cubes) c.loop-row.invariant.same in
    missed_at c.args.rows.now (slice_range c.args.pool.now.cubes c.args.cover.from c.args.cover.to) c.loop-row.row-index c.args.vars c.in-Some.point
    (get_or c.args.rows.now c.loop-row.row-index full_cube) c.loop-row-test.true refl (rw same at c.in-Some.ensures.answer)

pub loop-row-preserved : goal.loop-row-preserved
loop-row-preserved c =
    let same = ap (λ (p : Pool). p.cubes) c.loop-row.invariant.same in
    record {
      same = c.point_outside.ensures.same ∙ c.loop-row.invariant.same;
      covered = one_covered c.args.rows.now (slice_range c.args.pool.now.cubes c.args.cover.from c.args.cover.to) c.loop-row.row-index c.args.vars
          (get_or c.args.rows.now c.loop-row.row-index full_cube) c.loop-row-test.true refl c.loop-row.invariant.covered (rw same at c.in_default.ensures.answer);
    }

pub returns-clause-answer : goal.returns-clause-answer
returns-clause-answer c =
    all_covered c.args.rows.now (slice_range c.args.pool.now.cubes c.args.cover.from c.args.cover.to) c.loop-row.row-index c.args.vars c.loop-row-test.false c.loop-row.invariant.covered
