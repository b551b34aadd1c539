use Rattle.std.proofs.Common.{◌∙◌, ap, drop, refl, slice_range, arith}
use Rattle.covers.proofs.Common.{Pool}
use Rattle.covers.proofs.ExpandedRows.{rows_so_far, slice_kept}
use Rattle.covers.proofs.LeftOut.{slice_same}
use Rattle.covers.proofs.Minimised.{minimised}
use Rattle.covers.proofs.Passed.{among_below, take-grown}
use Rattle.covers.proofs.minimiser.minimise.Goals as goal

pub leave_out-requires-clause-needed_below : goal.leave_out-requires-clause-needed_below
leave_out-requires-clause-needed_below c =
    let before = ap (λ (p : Pool). p.cubes) c.allowed_cover-allowed.ensures.same in
    rw (slice_kept c.args.pool.now.cubes c.push_expanded.new.pool.cubes c.args.needed.from c.args.needed.to (rw before at c.push_expanded.ensures.kept) c.requires.needed.1) c.requires.needed_below

pub leave_out-requires-clause-at_needed : goal.leave_out-requires-clause-at_needed
leave_out-requires-clause-at_needed c =
    let before = ap (λ (p : Pool). p.cubes) c.allowed_cover-allowed.ensures.same in
    let kept = rw before at c.push_expanded.ensures.kept in
    rw (slice_kept c.args.pool.now.cubes c.push_expanded.new.pool.cubes c.args.needed.from c.args.needed.to kept c.requires.needed.1, c.len-from.ensures)
    (rw before at c.push_expanded.ensures.rows.at_needed)

pub shorten-requires-clause-rows : goal.shorten-requires-clause-rows
shorten-requires-clause-rows c =
    let old = c.args.pool.now.cubes in
    let from = c.len-from.result in
    let before = ap (λ (p : Pool). p.cubes) c.allowed_cover-allowed.ensures.same in
    let grown = take-grown old c.push_expanded.new.pool.cubes from (omega arith) (rw before at c.push_expanded.ensures.kept) in
    let kept = c.leave_out.ensures.kept ∙ grown in
    let range = c.allowed_cover-allowed.ensures.range in
    let needs = slice_same old c.leave_out.new.pool.cubes from c.args.needed.from c.args.needed.to kept (omega arith) in
    let needs-grown = slice_same old c.push_expanded.new.pool.cubes from c.args.needed.from c.args.needed.to grown (omega arith) in
    let allows = slice_same old c.leave_out.new.pool.cubes from c.args.allowed.from c.args.allowed.to kept (omega arith) in
    let expanded = rw (← c.len-from.ensures) at (rw (before, range) at c.push_expanded.ensures.rows) in
    record {
      within = c.leave_out.ensures.from;
      needed_order = c.requires.needed.0;
      needed_within = omega arith;
      allowed_order = rw range c.requires.allowed.0;
      allowed_within = rw range (omega arith);
      needed_below = rw needs c.requires.needed_below;
      allowed_below = rw (range, allows) c.requires.allowed_below;
      off = rw (range, allows) c.allowed_cover-allowed.ensures.off;
      below = among_below c.args.vars (drop from c.push_expanded.new.pool.cubes) (drop from c.leave_out.new.pool.cubes) c.leave_out.ensures.among expanded.below;
      rows = rw (range, needs, allows)
          (minimised (slice_range old c.args.needed.from c.args.needed.to) (slice_range old c.args.allowed.from c.args.allowed.to) (slice_range old c.args.needed.from c.args.needed.to)
          (drop from c.push_expanded.new.pool.cubes) (drop from c.leave_out.new.pool.cubes) (drop from c.leave_out.new.pool.cubes) c.args.vars refl
          expanded c.leave_out.ensures.among (rw needs-grown at c.leave_out.ensures.at_needed) (rw needs-grown at c.leave_out.ensures.irredundant));
    }

pub returns-clause-rows : goal.returns-clause-rows
returns-clause-rows c =
    let old = c.args.pool.now.cubes in
    let from = c.len-from.result in
    let before = ap (λ (p : Pool). p.cubes) c.allowed_cover-allowed.ensures.same in
    let grown = take-grown old c.push_expanded.new.pool.cubes from (omega arith) (rw before at c.push_expanded.ensures.kept) in
    let kept = c.shorten.ensures.kept ∙ c.leave_out.ensures.kept ∙ grown in
    let needs = slice_same old c.shorten.new.pool.cubes from c.args.needed.from c.args.needed.to kept (omega arith) in
    let allows = slice_same old c.shorten.new.pool.cubes from c.args.allowed.from c.args.allowed.to kept (omega arith) in
    rw (rows_so_far c.shorten.new.pool.cubes from c.len-to.result c.len-to.ensures)
    (rw (needs, allows) at (rw c.allowed_cover-allowed.ensures.range at c.shorten.ensures.rows.rows))
