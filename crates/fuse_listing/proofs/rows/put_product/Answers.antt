use Rattle.std.proofs.Common.{◌≡◌, ◌∙◌, ℕ, Bool, not, ap, sym, arith}
use Rattle.fuse_listing.proofs.Common.{entries_of, column_literal, is_opened}
use Rattle.fuse_listing.proofs.Joined.{none_joined, one_joined, one_passed, all_joined}
use Rattle.fuse_listing.proofs.rows.put_product.Goals as goal
use Rattle.fuse_listing.proofs.rows.put_product.Goals.{then-not-is_opened+in_ok-put_literal, else-not-is_opened}

pub loop-column-init : goal.loop-column-init
loop-column-init g c =
    none_joined (column_literal g.D.Device.table c.args.of.now.fuses.now (entries_of c.args.of.now.names.now)) (λ k. not (is_opened g.D.Device.table c.args.of.now.fuses.now c.args.row k)) c.args.out.now.items

pub loop-column-preserved : goal.loop-column-preserved
loop-column-preserved g c =
    let t = g.D.Device.table in
    let literal = column_literal t c.args.of.now.fuses.now (entries_of c.args.of.now.names.now) in
    let passes : ℕ → Bool = λ k. not (is_opened t c.args.of.now.fuses.now c.args.row k) in
    elim c.if-not-is_opened.branch [
      | then-not-is_opened+in_ok-put_literal w ↦
          rw (w.out-is, w.is_first-is, w.in_ok-put_literal.ensures)
          (one_joined literal passes c.args.out.now.items c.loop-column.out.items c.loop-column.is_first c.loop-column.column c.loop-column.invariant (ap not (sym c.is_opened.ensures ∙ w.if-not-is_opened.true)))
      | else-not-is_opened w ↦
          rw (w.out-is, w.is_first-is)
          (one_passed literal passes c.args.out.now.items c.loop-column.out.items c.loop-column.is_first c.loop-column.column c.loop-column.invariant (ap not (sym c.is_opened.ensures ∙ w.if-not-is_opened.false)))
    ]

pub returns-in_ok-push : goal.returns-in_ok-push
returns-in_ok-push g c =
    let t = g.D.Device.table in
    let literal = column_literal t c.args.of.now.fuses.now (entries_of c.args.of.now.names.now) in
    let passes : ℕ → Bool = λ k. not (is_opened t c.args.of.now.fuses.now c.args.row k) in
    let end : c.loop-column.column ≡ t.columns = omega (arith, c.loop-column-test.false, c.loop-column.auto.column-end, c.columns-column-end.ensures) in
    c.in_ok-push.ensures.items
    ∙ (rw (c.if-is_first.true, end) at (all_joined literal passes c.args.out.now.items c.loop-column.out.items c.loop-column.is_first c.loop-column.column c.loop-column.invariant))

pub returns-else-is_first : goal.returns-else-is_first
returns-else-is_first g c =
    let t = g.D.Device.table in
    let literal = column_literal t c.args.of.now.fuses.now (entries_of c.args.of.now.names.now) in
    let passes : ℕ → Bool = λ k. not (is_opened t c.args.of.now.fuses.now c.args.row k) in
    let end : c.loop-column.column ≡ t.columns = omega (arith, c.loop-column-test.false, c.loop-column.auto.column-end, c.columns-column-end.ensures) in
    (rw (c.if-is_first.false, end) at (all_joined literal passes c.args.out.now.items c.loop-column.out.items c.loop-column.is_first c.loop-column.column c.loop-column.invariant))
