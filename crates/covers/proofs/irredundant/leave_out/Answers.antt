use Rattle.std.proofs.Common.{◌≡◌, ◌-◌, ◌∙◌, length, take, drop, refl, ap, arith}
use Rattle.covers.proofs.Common.{swap, length-drop, length-take, take-take, length-swap, All-contains_itself, All-take, Pool, AsksBelow}
use Rattle.covers.proofs.LeftOut.{All-swap, last_swapped, left_goes, left_stays, others_swapped, row_below, rows_cut, rows_swapped, slice_same, take-swap}
use Rattle.covers.proofs.irredundant.leave_out.Goals as goal

pub loop-place-init : goal.loop-place-init
loop-place-init c = record {
  from = omega arith;
  place = omega arith;
  kept = refl;
  few = omega arith;
  spare = refl;
  left = record {
    at_needed = c.requires.at_needed;
    tried = λ k le lt. absurd (omega (arith, le, lt, length-drop c.args.from c.args.pool.now.cubes));
    among = All-contains_itself (drop c.args.from c.args.pool.now.cubes);
    below = c.requires.rows_below;
  };
}

pub covers_needed-requires-clause-cover_below : goal.covers_needed-requires-clause-cover_below
covers_needed-requires-clause-cover_below c =
    let cubes = c.loop-place.pool.cubes in
    let place = c.loop-place.place - 1 in
    let last = c.len-last.result - 1 in
    let long = length-drop c.args.from cubes in
    rw (c.swap.ensures.cubes, others_swapped cubes c.args.from place last (omega arith) (omega arith) (omega arith))
    (All-take (AsksBelow c.args.vars) (last - c.args.from) (swap (drop c.args.from cubes) (place - c.args.from) (last - c.args.from))
    (All-swap (AsksBelow c.args.vars) (drop c.args.from cubes) (place - c.args.from) (last - c.args.from) (omega (arith, long)) (omega (arith, long)) c.loop-place.invariant.left.below))

pub covers_needed-requires-clause-needed_below : goal.covers_needed-requires-clause-needed_below
covers_needed-requires-clause-needed_below c =
    let kept = ap (λ xs. take c.args.from xs) c.swap.ensures.cubes ∙ take-swap c.loop-place.pool.cubes c.args.from (c.loop-place.place - 1) (c.len-last.result - 1) (omega arith) (omega arith) (omega arith) (omega arith) ∙ c.loop-place.invariant.kept in
    rw (slice_same c.args.pool.now.cubes c.swap.new.self.cubes c.args.from c.args.needed.from c.args.needed.to kept c.requires.within) c.requires.needed_below

pub covers_needed-requires-clause-cube : goal.covers_needed-requires-clause-cube
covers_needed-requires-clause-cube c =
    let cubes = c.loop-place.pool.cubes in
    let place = c.loop-place.place - 1 in
    let last = c.len-last.result - 1 in
    let rows = drop c.args.from cubes in
    let long = length-drop c.args.from cubes in
    let same-length = length-swap rows (place - c.args.from) (last - c.args.from) in
    let is = last_swapped cubes c.args.from place last c.cube_at-row.result (omega arith) (omega arith) (omega arith) (rw c.swap.ensures.cubes at c.cube_at-row.ensures) in
    row_below c.args.vars (last - c.args.from) (swap rows (place - c.args.from) (last - c.args.from)) c.cube_at-row.result (omega (arith, long, same-length)) is
    (All-swap (AsksBelow c.args.vars) rows (place - c.args.from) (last - c.args.from) (omega (arith, long)) (omega (arith, long)) c.loop-place.invariant.left.below)

pub loop-place-preserved-then-covers_needed : goal.loop-place-preserved-then-covers_needed
loop-place-preserved-then-covers_needed c =
    let before = c.loop-place.invariant in
    let cubes = c.loop-place.pool.cubes in
    let from = c.args.from in
    let place = c.loop-place.place - 1 in
    let last = c.len-last.result - 1 in
    let rows = drop from cubes in
    let long = length-drop from cubes in
    let moved = length-swap cubes place last in
    let kept = ap (λ xs. take from xs) c.swap.ensures.cubes ∙ take-swap cubes from place last (omega arith) (omega arith) (omega arith) (omega arith) ∙ before.kept in
    let same = slice_same c.args.pool.now.cubes c.swap.new.self.cubes from c.args.needed.from c.args.needed.to kept c.requires.within in
    let others = others_swapped cubes from place last (omega arith) (omega arith) (omega arith) in
    let is = last_swapped cubes from place last c.cube_at-row.result (omega arith) (omega arith) (omega arith) (rw c.swap.ensures.cubes at c.cube_at-row.ensures) in
    let answer = rw others at (rw c.swap.ensures.cubes at (rw same at c.covers_needed.ensures.answer)) in
    let pool-same = ap (λ (p : Pool). p.cubes) c.covers_needed.ensures.same in
    let room = ap (λ (p : Pool). p.spare) c.covers_needed.ensures.same in
    let cut : c.release.new.self.cubes ≡ take last (swap cubes place last) = c.release.ensures.cubes ∙ ap (λ xs. take last xs) (pool-same ∙ c.swap.ensures.cubes) in
    let short : length c.release.new.self.cubes ≡ last = ap length cut ∙ (let e = length-take last (swap cubes place last) in omega (arith, e, moved)) in
    let grown : length c.covers_needed.new.pool.cubes ≡ length cubes = ap length (pool-same ∙ c.swap.ensures.cubes) ∙ moved in
    let left = left_goes _ (drop from c.args.pool.now.cubes) rows c.args.vars (c.loop-place.place - from) (place - from) (last - from) c.cube_at-row.result c.covers_needed.result (omega (arith, long)) (omega (arith, long)) (omega arith) before.left is answer c.if-covers_needed.true in
    record {
      from = omega arith;
      place = omega (arith, short);
      kept = ap (λ xs. take from xs) cut ∙ take-take from last (swap cubes place last) (omega arith) ∙ take-swap cubes from place last (omega arith) (omega arith) (omega arith) (omega arith) ∙ before.kept;
      few = omega (arith, short, before.few);
      spare = omega (arith, short, room, grown, moved, before.spare, c.release.ensures.spare, c.swap.ensures.spare);
      left = rw (cut, rows_cut (swap cubes place last) from last (omega arith), rows_swapped cubes from place last (omega arith) (omega arith) (omega arith)) left;
    }

pub loop-place-preserved : goal.loop-place-preserved
loop-place-preserved c =
    let before = c.loop-place.invariant in
    let cubes = c.loop-place.pool.cubes in
    let from = c.args.from in
    let place = c.loop-place.place - 1 in
    let last = c.len-last.result - 1 in
    let rows = drop from cubes in
    let long = length-drop from cubes in
    let moved = length-swap cubes place last in
    let kept = ap (λ xs. take from xs) c.swap.ensures.cubes ∙ take-swap cubes from place last (omega arith) (omega arith) (omega arith) (omega arith) ∙ before.kept in
    let same = slice_same c.args.pool.now.cubes c.swap.new.self.cubes from c.args.needed.from c.args.needed.to kept c.requires.within in
    let others = others_swapped cubes from place last (omega arith) (omega arith) (omega arith) in
    let answer = rw others at (rw c.swap.ensures.cubes at (rw same at c.covers_needed.ensures.answer)) in
    let pool-same = ap (λ (p : Pool). p.cubes) c.covers_needed.ensures.same in
    let room = ap (λ (p : Pool). p.spare) c.covers_needed.ensures.same in
    let now : c.covers_needed.new.pool.cubes ≡ swap cubes place last = pool-same ∙ c.swap.ensures.cubes in
    let grown : length c.covers_needed.new.pool.cubes ≡ length cubes = ap length now ∙ moved in
    let left = left_stays _ (drop from c.args.pool.now.cubes) rows c.args.vars (c.loop-place.place - from) (place - from) (last - from) c.cube_at-row.result c.covers_needed.result (omega (arith, long)) (omega (arith, long)) (omega arith) before.left answer c.if-covers_needed.false in
    record {
      from = omega arith;
      place = omega (arith, grown);
      kept = ap (λ xs. take from xs) pool-same ∙ kept;
      few = omega (arith, grown, before.few);
      spare = omega (arith, room, grown, before.spare, c.swap.ensures.spare);
      left = rw (now, rows_swapped cubes from place last (omega arith) (omega arith) (omega arith)) left;
    }
