use Rattle.std.proofs.Common.{◌∙◌, ap, refl, slice_range, arith}
use Rattle.covers.proofs.Common.{or_lt, Pool}
use Rattle.covers.proofs.CubeBits.{bit_below}
use Rattle.covers.proofs.Literals.{grows-refl, grows-trans, left_less, left_low, tried_first, tried_last, tried_more}
use Rattle.covers.proofs.expand.expanded.Goals as goal

pub loop-left-init : goal.loop-left-init
loop-left-init c = record {
  same = refl;
  low = or_lt c.args.vars c.args.cube.yes c.args.cube.no c.requires.cube.0 c.requires.cube.1;
  below = c.requires.cube;
  inside = c.requires.inside;
  grows = grows-refl c.args.vars c.args.cube;
  tried = tried_first (slice_range c.args.pool.now.cubes c.args.allowed.now.range.from c.args.allowed.now.range.to) c.args.vars c.args.cube;
}

pub expanded_at-first-requires-clause-variable : goal.expanded_at-first-requires-clause-variable
expanded_at-first-requires-clause-variable c = bit_below c.loop-left.left c.args.vars c.most_voted-variable.result c.loop-left.invariant.low c.most_voted-variable.ensures.is_left

pub expanded_at-found-requires-clause-variable : goal.expanded_at-found-requires-clause-variable
expanded_at-found-requires-clause-variable c = bit_below c.loop-left.left c.args.vars c.most_voted-variable.result c.loop-left.invariant.low c.most_voted-variable.ensures.is_left

pub loop-left-smaller : goal.loop-left-smaller
loop-left-smaller c = left_less c.loop-left.left _ c.most_voted-variable.result c.most_voted-variable.ensures.low c.most_voted-variable.ensures.is_left refl

pub loop-left-preserved : goal.loop-left-preserved
loop-left-preserved c =
    let before = c.loop-left.invariant in
    let v = c.most_voted-variable.result in
    let first = c.expanded_at-first in
    let found = c.expanded_at-found in
    let one = ap (λ (p : Pool). p.cubes) before.same in
    let two = ap (λ (p : Pool). p.cubes) (first.ensures.same ∙ before.same) in
    let more = grows-trans c.args.vars c.loop-left.found first.result found.result first.ensures.grows found.ensures.grows in
    record {
      same = found.ensures.same ∙ first.ensures.same ∙ before.same;
      low = left_low c.loop-left.left c.args.vars _ before.low;
      below = found.ensures.below;
      inside = rw two at found.ensures.inside;
      grows = grows-trans c.args.vars c.args.cube c.loop-left.found found.result before.grows more;
      tried = tried_more (slice_range c.args.pool.now.cubes c.args.allowed.now.range.from c.args.allowed.now.range.to) c.args.vars c.loop-left.left _ v c.loop-left.found first.result found.result (omega arith)
          (bit_below c.loop-left.left c.args.vars v before.low c.most_voted-variable.ensures.is_left) first.ensures.grows found.ensures.grows refl before.tried (rw one at first.ensures.tried) (rw two at found.ensures.tried);
    }

pub returns-clause-prime : goal.returns-clause-prime
returns-clause-prime c = tried_last (slice_range c.args.pool.now.cubes c.args.allowed.now.range.from c.args.allowed.now.range.to) c.args.vars c.loop-left.left c.loop-left.found (omega arith) c.loop-left.invariant.tried
