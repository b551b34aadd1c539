-- One use more, and all uses.
use Rattle.std.proofs.Common.{length, map, take, ap, ◌∙◌, subst}
use Rattle.expr_bits.proofs.Common.{list_any, entries_of, view, known_of, view_use, front_more, whole_front, Finds, used_answer}
use Rattle.expr_bits.proofs.ReadLaws.{more_found, nothing_found, uses_read}
use Rattle.expr_bits.proofs.rows.expr_reads.Goals as goal

pub loop-used-init : goal.loop-used-init
loop-used-init c d h = rw c.none-reads.ensures nothing_found

pub loop-used-preserved : goal.loop-used-preserved
loop-used-preserved c d h =
    let known = known_of (take (length c.args.rows.now) (entries_of c.args.scope.now)) in
    let uses = c.deref-used-items.result.now in
    more_found c.loop-used.reads c.in_ok-here.here c.with-reads.result (used_answer d known) _ _ (view_use c.used-item.result)
    (front_more view_use uses c.loop-used.used-index c.used-item.result c.loop-used-test.true c.used-item.is)
    c.with-reads.ensures (c.loop-used.invariant d h) (c.in_ok-here.ensures d h)

pub returns : goal.returns
returns c d h =
    let known = known_of (take (length c.args.rows.now) (entries_of c.args.scope.now)) in
    let uses = c.deref-used-items.result.now in
    uses_read d known c.loop-used.reads (view c.args.expr.now)
    (subst (λ us. Finds c.loop-used.reads (λ q. list_any (used_answer d known q) us))
    (whole_front view_use uses c.loop-used.used-index c.loop-used-test.false ∙ ap (map view_use) c.deref-used-items.ensures.value ∙ c.in_ok-uses.ensures) (c.loop-used.invariant d h))
