use Rattle.std.proofs.Common.{◌+◌, ◌<◌, ◌∙◌, ap, arith, drop, length, take}
use Rattle.covers.proofs.Common.{length-swap}
use Rattle.covers.proofs.MovedRows.{front_more, tail_more}
use Rattle.covers.proofs.moving.move_down.Goals as goal

pub loop-step-preserved : goal.loop-step-preserved
loop-step-preserved c =
    let before = c.loop-step.invariant in
    let old = c.args.pool.now.cubes in
    let cubes = c.loop-step.pool.cubes in
    let step = c.loop-step.step in
    let lt : c.args.from + step < length old = omega arith in
    record {
      count = before.count;
      long = ap length c.swap.ensures.cubes ∙ length-swap cubes (c.args.place + step) (c.args.from + step) ∙ before.long;
      spare = c.swap.ensures.spare ∙ before.spare;
      front = ap (λ xs. take (c.args.place + (step + 1)) xs) c.swap.ensures.cubes ∙ front_more old cubes c.args.place c.args.from step c.requires.order lt before.long before.front before.tail;
      tail = ap (λ xs. drop (c.args.from + (step + 1)) xs) c.swap.ensures.cubes ∙ tail_more old cubes c.args.place c.args.from step c.requires.order lt before.long before.tail;
    }
