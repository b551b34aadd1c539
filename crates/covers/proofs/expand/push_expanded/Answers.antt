use Rattle.std.proofs.Common.{◌≡◌, ◌+◌, ◌++◌, [], ◌∷◌, length, drop, slice_range, ap, sym, ◌∙◌, arith}
use Rattle.covers.proofs.Common.{length_push, Pool}
use Rattle.covers.proofs.ExpandedRows.{at_below, at_inside, cube_kept, expanded_more, expanded_skip, push_kept, push_rows, rows_so_far, slice_kept}
use Rattle.covers.proofs.expand.push_expanded.Goals as goal

pub expanded-row-requires-clause-cube : goal.expanded-row-requires-clause-cube
expanded-row-requires-clause-cube c =
    let there = cube_kept c.args.pool.now.cubes c.loop-place.pool.cubes c.loop-place.place c.cube_at-cube.result c.loop-place.invariant.kept (omega arith) c.cube_at-cube.ensures in
    at_below c.args.vars c.args.needed.from c.args.needed.to c.loop-place.place c.args.pool.now.cubes c.cube_at-cube.result c.loop-place.invariant.from c.loop-place-test.true (omega arith) c.requires.needed_below there

pub expanded-row-requires-clause-inside : goal.expanded-row-requires-clause-inside
expanded-row-requires-clause-inside c =
    let there = cube_kept c.args.pool.now.cubes c.loop-place.pool.cubes c.loop-place.place c.cube_at-cube.result c.loop-place.invariant.kept (omega arith) c.cube_at-cube.ensures in
    rw (slice_kept c.args.pool.now.cubes c.loop-place.pool.cubes c.args.allowed.now.range.from c.args.allowed.now.range.to c.loop-place.invariant.kept c.requires.allowed.1)
    (at_inside c.args.vars c.args.needed.from c.args.needed.to c.loop-place.place (slice_range c.args.pool.now.cubes c.args.allowed.now.range.from c.args.allowed.now.range.to) c.args.pool.now.cubes c.cube_at-cube.result c.loop-place.invariant.from c.loop-place-test.true (omega arith) c.requires.inside there)

pub loop-place-preserved : goal.loop-place-preserved
loop-place-preserved c =
    let before = c.loop-place.invariant in
    let row = c.expanded-row in
    let old = c.args.pool.now.cubes in
    let now = c.loop-place.pool.cubes in
    let there = cube_kept old now c.loop-place.place c.cube_at-cube.result before.kept (omega arith) c.cube_at-cube.ensures in
    let grown : c.push.new.self.cubes ≡ now ++ row.result ∷ [] = c.push.ensures.cubes ∙ ap (λ (p : Pool). p.cubes ++ row.result ∷ []) row.ensures.same in
    let long : length c.push.new.self.cubes ≡ length now + 1 = ap length grown ∙ length_push now row.result in
    let room = ap (λ (p : Pool). p.spare) row.ensures.same in
    let same = slice_kept old now c.args.allowed.now.range.from c.args.allowed.now.range.to before.kept c.requires.allowed.1 in
    record {
      kept = rw grown (push_kept old now row.result before.kept);
      spare = omega (arith, long, room, c.push.ensures.spare, before.spare);
      from = omega arith;
      rows = rw (grown, push_rows old now row.result before.kept)
          (expanded_more (slice_range old c.args.allowed.now.range.from c.args.allowed.now.range.to) old (drop (length old) now) c.args.vars c.args.needed.from c.loop-place.place c.cube_at-cube.result row.result before.from (omega arith) there before.rows
          (rw same at row.ensures.inside) row.ensures.grows (rw same at row.ensures.prime) row.ensures.below);
    }

pub loop-place-preserved-then-has_row : goal.loop-place-preserved-then-has_row
loop-place-preserved-then-has_row c =
    let before = c.loop-place.invariant in
    let old = c.args.pool.now.cubes in
    let now = c.loop-place.pool.cubes in
    let there = cube_kept old now c.loop-place.place c.cube_at-cube.result before.kept (omega arith) c.cube_at-cube.ensures in
    record {
      kept = before.kept;
      spare = before.spare;
      from = omega arith;
      rows = expanded_skip (slice_range old c.args.allowed.now.range.from c.args.allowed.now.range.to) old (drop (length old) now) c.args.vars c.args.needed.from c.loop-place.place c.cube_at-cube.result before.from (omega arith) there before.rows
          (rw (rows_so_far now c.len-from.result c.len.result c.len.ensures, c.len-from.ensures) at (sym c.has_row.ensures ∙ c.if-has_row.true));
    }

pub expanded-row-requires-clause-below : goal.expanded-row-requires-clause-below
expanded-row-requires-clause-below c = rw (slice_kept c.args.pool.now.cubes c.loop-place.pool.cubes c.args.allowed.now.range.from c.args.allowed.now.range.to c.loop-place.invariant.kept c.requires.allowed.1) c.requires.allowed_below

pub expanded-row-requires-clause-off : goal.expanded-row-requires-clause-off
expanded-row-requires-clause-off c = rw (slice_kept c.args.pool.now.cubes c.loop-place.pool.cubes c.args.allowed.now.range.from c.args.allowed.now.range.to c.loop-place.invariant.kept c.requires.allowed.1) c.requires.off
