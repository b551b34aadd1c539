use Rattle.std.proofs.Common.{◌≡◌, ◌∙◌, ap, get_or, refl, slice_range, arith}
use Rattle.covers.proofs.Common.{get_or_from_slice_get, Pool, full_cube}
use Rattle.covers.proofs.CommonPoints.{common_fails, common_more, common_none}
use Rattle.covers.proofs.ExpandedRows.{at_below}
use Rattle.covers.proofs.irredundant.covers_needed.Goals as goal

pub loop-place-init : goal.loop-place-init
loop-place-init c = record {
  same = refl;
  from = omega arith;
  so_far = common_none (slice_range c.args.pool.now.cubes c.args.cover.from c.args.cover.to) c.args.pool.now.cubes c.args.needed.from c.args.vars c.args.cube;
}

pub covers_both-requires-clause-other : goal.covers_both-requires-clause-other
covers_both-requires-clause-other c =
    let same = ap (λ (p : Pool). p.cubes) c.loop-place.invariant.same in
    let there : get_or c.args.pool.now.cubes c.loop-place.place full_cube ≡ c.cube_at-other.result = get_or_from_slice_get _ c.loop-place.place c.cube_at-other.result full_cube (rw same at c.cube_at-other.ensures) in
    at_below c.args.vars c.args.needed.from c.args.needed.to c.loop-place.place c.args.pool.now.cubes c.cube_at-other.result c.loop-place.invariant.from c.loop-place-test.true c.requires.needed.1 c.requires.needed_below there

pub returns-then-not-covers_both-clause-answer : goal.returns-then-not-covers_both-clause-answer
returns-then-not-covers_both-clause-answer c =
    let same = ap (λ (p : Pool). p.cubes) c.loop-place.invariant.same in
    let there : get_or c.args.pool.now.cubes c.loop-place.place full_cube ≡ c.cube_at-other.result = get_or_from_slice_get _ c.loop-place.place c.cube_at-other.result full_cube (rw same at c.cube_at-other.ensures) in
    common_fails (slice_range c.args.pool.now.cubes c.args.cover.from c.args.cover.to) c.args.pool.now.cubes c.args.needed.from c.args.needed.to c.loop-place.place c.args.vars c.cube_at-other.result c.args.cube c.covers_both.result
    c.loop-place.invariant.from c.loop-place-test.true c.requires.needed.1 there (rw same at c.covers_both.ensures.answer) c.if-not-covers_both.true

pub loop-place-preserved : goal.loop-place-preserved
loop-place-preserved c =
    let before = c.loop-place.invariant in
    let same = ap (λ (p : Pool). p.cubes) before.same in
    let there : get_or c.args.pool.now.cubes c.loop-place.place full_cube ≡ c.cube_at-other.result = get_or_from_slice_get _ c.loop-place.place c.cube_at-other.result full_cube (rw same at c.cube_at-other.ensures) in
    record {
      same = c.covers_both.ensures.same ∙ before.same;
      from = omega arith;
      so_far = common_more (slice_range c.args.pool.now.cubes c.args.cover.from c.args.cover.to) c.args.pool.now.cubes c.args.needed.from c.loop-place.place c.args.vars c.cube_at-other.result c.args.cube
          before.from (omega arith) there before.so_far ((rw same at c.covers_both.ensures.answer).0 c.if-not-covers_both.false);
    }
