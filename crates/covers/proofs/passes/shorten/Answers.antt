use Rattle.std.proofs.Common.{inl, inr, ◌∙◌, drop, length, take, ap, arith}
use Rattle.covers.proofs.Passed.{has_rows_moved, moved_parts, take-lower, take-whole}
use Rattle.covers.proofs.passes.shorten.Goals as goal

pub returns-clause-rows : goal.returns-clause-rows
returns-clause-rows c =
    let before = c.loop.invariant in
    let from = c.args.from in
    let old = c.args.pool.now in
    let second = c.len-second.result in
    let whole = take-whole old.cubes second before.second in
    let low = take-lower old.cubes c.loop.pool.cubes from second (omega arith) (before.kept ∙ whole) in
    elim c.keep_fewer.ensures.cubes [
      | inl same ↦
          let is = same ∙ before.kept in
          has_rows_moved c.args.needed c.args.allowed.now c.args.vars from from from old c.keep_fewer.new.pool c.requires.rows c.requires.rows.needed_within c.requires.rows.allowed_within
          (ap (λ xs. take from xs) is) (omega arith) (omega (arith, ap length is, c.requires.rows.within)) (ap (λ xs. drop from xs) is)
      | inr fewer ↦
          let parts = moved_parts c.loop.pool.cubes c.keep_fewer.new.pool.cubes from second (omega arith) fewer.0 in
          has_rows_moved c.args.needed c.args.allowed.now c.args.vars from second from c.loop.pool c.keep_fewer.new.pool before.rows c.requires.rows.needed_within c.requires.rows.allowed_within
          parts.0 (omega arith) parts.2 parts.1
    ]
