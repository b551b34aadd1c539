use Rattle.std.proofs.Common.{◌≡◌, ◌-◌, ◌++◌, [], ◌∷◌, ◌∙◌, length, take, drop, ap, arith}
use Rattle.covers.proofs.Common.{swap, drop-append-le, length-drop, length-take, length_push, take-append-le, take-take, length-swap, All-take, Pool, AsksBelow}
use Rattle.covers.proofs.LeftOut.{All-swap, last_swapped, others_swapped, row_below, rows_cut, rows_swapped, slice_same, take-swap}
use Rattle.covers.proofs.Reductions.{reduced_more}
use Rattle.covers.proofs.reduce.reduce.Goals as goal

pub reduced-smaller-requires-clause-others_below : goal.reduced-smaller-requires-clause-others_below
reduced-smaller-requires-clause-others_below c =
    let cubes = c.loop-place.pool.cubes in
    let place = c.loop-place.place - 1 in
    let last = c.len-last.result - 1 in
    let long = length-drop c.args.from cubes in
    rw (c.swap.ensures.cubes, others_swapped cubes c.args.from place last (omega arith) (omega arith) (omega arith))
    (All-take (AsksBelow c.args.vars) (last - c.args.from) (swap (drop c.args.from cubes) (place - c.args.from) (last - c.args.from))
    (All-swap (AsksBelow c.args.vars) (drop c.args.from cubes) (place - c.args.from) (last - c.args.from) (omega (arith, long)) (omega (arith, long)) c.loop-place.invariant.rows.below))

pub reduced-smaller-requires-clause-needed_below : goal.reduced-smaller-requires-clause-needed_below
reduced-smaller-requires-clause-needed_below c =
    let kept = ap (λ xs. take c.args.from xs) c.swap.ensures.cubes ∙ take-swap c.loop-place.pool.cubes c.args.from (c.loop-place.place - 1) (c.len-last.result - 1) (omega arith) (omega arith) (omega arith) (omega arith) ∙ c.loop-place.invariant.kept in
    rw (slice_same c.args.pool.now.cubes c.swap.new.self.cubes c.args.from c.args.needed.from c.args.needed.to kept c.requires.within) c.requires.needed_below

pub reduced-smaller-requires-clause-row : goal.reduced-smaller-requires-clause-row
reduced-smaller-requires-clause-row c =
    let cubes = c.loop-place.pool.cubes in
    let place = c.loop-place.place - 1 in
    let last = c.len-last.result - 1 in
    let rows = drop c.args.from cubes in
    let long = length-drop c.args.from cubes in
    let same-length = length-swap rows (place - c.args.from) (last - c.args.from) in
    let is = last_swapped cubes c.args.from place last c.cube_at-row.result (omega arith) (omega arith) (omega arith) (rw c.swap.ensures.cubes at c.cube_at-row.ensures) in
    row_below c.args.vars (last - c.args.from) (swap rows (place - c.args.from) (last - c.args.from)) c.cube_at-row.result (omega (arith, long, same-length)) is
    (All-swap (AsksBelow c.args.vars) rows (place - c.args.from) (last - c.args.from) (omega (arith, long)) (omega (arith, long)) c.loop-place.invariant.rows.below)

pub loop-place-preserved : goal.loop-place-preserved
loop-place-preserved c =
    let before = c.loop-place.invariant in
    let smaller = c.reduced-smaller in
    let cubes = c.loop-place.pool.cubes in
    let from = c.args.from in
    let place = c.loop-place.place - 1 in
    let last = c.len-last.result - 1 in
    let rows = drop from cubes in
    let long = length-drop from cubes in
    let moved = length-swap cubes place last in
    let kept = take-swap cubes from place last (omega arith) (omega arith) (omega arith) (omega arith) ∙ before.kept in
    let same = slice_same c.args.pool.now.cubes c.swap.new.self.cubes from c.args.needed.from c.args.needed.to (ap (λ xs. take from xs) c.swap.ensures.cubes ∙ kept) c.requires.within in
    let others = others_swapped cubes from place last (omega arith) (omega arith) (omega arith) in
    let is = last_swapped cubes from place last c.cube_at-row.result (omega arith) (omega arith) (omega arith) (rw c.swap.ensures.cubes at c.cube_at-row.ensures) in
    let less = rw others at (rw c.swap.ensures.cubes at (rw same at smaller.ensures.reduced)) in
    let pool-same = ap (λ (p : Pool). p.cubes) smaller.ensures.same in
    let room = ap (λ (p : Pool). p.spare) smaller.ensures.same in
    let cut : c.release.new.self.cubes ≡ take last (swap cubes place last) = c.release.ensures.cubes ∙ ap (λ xs. take last xs) (pool-same ∙ c.swap.ensures.cubes) in
    let now : c.push.new.self.cubes ≡ take last (swap cubes place last) ++ smaller.result ∷ [] = c.push.ensures.cubes ∙ ap (λ xs. xs ++ smaller.result ∷ []) cut in
    let short : length (take last (swap cubes place last)) ≡ last = let e = length-take last (swap cubes place last) in omega (arith, e, moved) in
    let grown : length c.push.new.self.cubes ≡ length cubes = ap length now ∙ (let e = length_push (take last (swap cubes place last)) smaller.result in omega (arith, e, short)) in
    let whole : length smaller.new.pool.cubes ≡ length cubes = ap length (pool-same ∙ c.swap.ensures.cubes) ∙ moved in
    let left = reduced_more _ (drop from c.args.pool.now.cubes) rows c.args.vars (place - from) (last - from) c.cube_at-row.result smaller.result (omega (arith, long)) (omega (arith, long)) before.rows is less smaller.ensures.inside smaller.ensures.below in
    record {
      from = omega arith;
      place = omega (arith, grown);
      kept = ap (λ xs. take from xs) now ∙ take-append-le from (take last (swap cubes place last)) (smaller.result ∷ []) (omega (arith, short)) ∙ take-take from last (swap cubes place last) (omega arith) ∙ kept;
      long = grown ∙ before.long;
      spare = omega (arith, ap length cut, short, room, whole, grown, before.spare, c.push.ensures.spare, c.release.ensures.spare, c.swap.ensures.spare);
      rows = rw (now, drop-append-le from (take last (swap cubes place last)) (smaller.result ∷ []) (omega (arith, short)), rows_cut (swap cubes place last) from last (omega arith), rows_swapped cubes from place last (omega arith) (omega arith) (omega arith)) left;
    }
