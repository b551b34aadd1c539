use Rattle.std.proofs.Common.{◌∙◌, drop, slice_range, arith}
use Rattle.covers.proofs.ExpandedRows.{rows_so_far}
use Rattle.covers.proofs.LeftOut.{slice_same}
use Rattle.covers.proofs.Minimised.{minimised}
use Rattle.covers.proofs.Passed.{among_below, moved_parts, take-grown, take-lower}
use Rattle.covers.proofs.passes.pass.Goals as goal

pub push_expanded-requires-clause-off : goal.push_expanded-requires-clause-off
push_expanded-requires-clause-off c =
    rw (slice_same c.args.pool.now.cubes c.reduce.new.pool.cubes c.args.from c.args.allowed.now.range.from c.args.allowed.now.range.to c.reduce.ensures.kept c.requires.rows.allowed_within) c.requires.rows.off

pub push_expanded-requires-clause-inside : goal.push_expanded-requires-clause-inside
push_expanded-requires-clause-inside c =
    let same = slice_same c.args.pool.now.cubes c.reduce.new.pool.cubes c.args.from c.args.allowed.now.range.from c.args.allowed.now.range.to c.reduce.ensures.kept c.requires.rows.allowed_within in
    let rows = rows_so_far c.reduce.new.pool.cubes c.args.from c.len-to.result c.len-to.ensures in
    rw (same, rows) (λ p len has. c.requires.rows.rows.at_allowed p len (c.reduce.ensures.inside p len has))

pub leave_out-requires-clause-needed_below : goal.leave_out-requires-clause-needed_below
leave_out-requires-clause-needed_below c =
    let kept = take-grown c.reduce.new.pool.cubes c.push_expanded.new.pool.cubes c.args.from (omega arith) c.push_expanded.ensures.kept ∙ c.reduce.ensures.kept in
    rw (slice_same c.args.pool.now.cubes c.push_expanded.new.pool.cubes c.args.from c.args.needed.from c.args.needed.to kept c.requires.rows.needed_within) c.requires.rows.needed_below

pub leave_out-requires-clause-at_needed : goal.leave_out-requires-clause-at_needed
leave_out-requires-clause-at_needed c =
    let kept = take-grown c.reduce.new.pool.cubes c.push_expanded.new.pool.cubes c.args.from (omega arith) c.push_expanded.ensures.kept ∙ c.reduce.ensures.kept in
    let same = slice_same c.args.pool.now.cubes c.push_expanded.new.pool.cubes c.args.from c.args.needed.from c.args.needed.to kept c.requires.rows.needed_within in
    let rows = rows_so_far c.reduce.new.pool.cubes c.args.from c.len-to.result c.len-to.ensures in
    let expanded = rw rows at c.push_expanded.ensures.rows.at_needed in
    rw (same, c.len-to.ensures) (λ p len has. expanded p len (c.reduce.ensures.at_needed p len has))

pub returns-clause-rows : goal.returns-clause-rows
returns-clause-rows c =
    let old = c.args.pool.now.cubes in
    let from = c.args.from in
    let to = c.len-to.result in
    let grown = take-grown c.reduce.new.pool.cubes c.push_expanded.new.pool.cubes from (omega arith) c.push_expanded.ensures.kept ∙ c.reduce.ensures.kept in
    let left = take-lower c.push_expanded.new.pool.cubes c.leave_out.new.pool.cubes from to (omega arith) c.leave_out.ensures.kept ∙ grown in
    let parts = moved_parts c.leave_out.new.pool.cubes c.move_down.new.pool.cubes from to (omega arith) c.move_down.ensures.cubes in
    let kept = parts.0 ∙ left in
    let needs = slice_same old c.move_down.new.pool.cubes from c.args.needed.from c.args.needed.to kept c.requires.rows.needed_within in
    let needs-grown = slice_same old c.push_expanded.new.pool.cubes from c.args.needed.from c.args.needed.to grown c.requires.rows.needed_within in
    let allows = slice_same old c.move_down.new.pool.cubes from c.args.allowed.now.range.from c.args.allowed.now.range.to kept c.requires.rows.allowed_within in
    let allows-reduced = slice_same old c.reduce.new.pool.cubes from c.args.allowed.now.range.from c.args.allowed.now.range.to c.reduce.ensures.kept c.requires.rows.allowed_within in
    let expanded = rw (← c.len-to.ensures) at (rw allows-reduced at c.push_expanded.ensures.rows) in
    record {
      within = parts.2;
      needed_order = c.requires.rows.needed_order;
      needed_within = c.requires.rows.needed_within;
      allowed_order = c.requires.rows.allowed_order;
      allowed_within = c.requires.rows.allowed_within;
      needed_below = rw needs c.requires.rows.needed_below;
      allowed_below = rw allows c.requires.rows.allowed_below;
      off = rw allows c.requires.rows.off;
      below = rw parts.1 (among_below c.args.vars (drop to c.push_expanded.new.pool.cubes) (drop to c.leave_out.new.pool.cubes) c.leave_out.ensures.among expanded.below);
      rows = rw (needs, allows)
          (minimised (slice_range old c.args.needed.from c.args.needed.to) (slice_range old c.args.allowed.now.range.from c.args.allowed.now.range.to) (slice_range c.reduce.new.pool.cubes from to)
          (drop to c.push_expanded.new.pool.cubes) (drop to c.leave_out.new.pool.cubes) (drop from c.move_down.new.pool.cubes) c.args.vars parts.1
          expanded c.leave_out.ensures.among (rw needs-grown at c.leave_out.ensures.at_needed) (rw needs-grown at c.leave_out.ensures.irredundant));
    }
