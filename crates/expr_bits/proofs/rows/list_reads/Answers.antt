-- One name more, and all names.
use Rattle.std.proofs.Common.{length, take, subst}
use Rattle.expr_bits.proofs.Common.{list_any, entries_of, known_of, term_named, name_items, front_more, whole_front, Finds, IsReads, named_answer}
use Rattle.expr_bits.proofs.ReadLaws.{more_found, nothing_found}
use Rattle.expr_bits.proofs.rows.list_reads.Goals as goal

pub loop-name-init : goal.loop-name-init
loop-name-init c d h = rw c.none-reads.ensures nothing_found

pub loop-name-preserved : goal.loop-name-preserved
loop-name-preserved c d h =
    let known = known_of (take (length c.args.rows.now) (entries_of c.args.scope.now)) in
    let here = subst (λ w. IsReads d c.text_reads.result (term_named known w)) c.as_slice.ensures.value (c.text_reads.ensures d h) in
    more_found c.loop-name.reads c.text_reads.result c.with-reads.result (named_answer d known) _ _ (name_items c.name-item.result)
    (front_more name_items c.args.names.now c.loop-name.name-index c.name-item.result c.loop-name-test.true c.name-item.is)
    c.with-reads.ensures (c.loop-name.invariant d h) here

pub returns : goal.returns
returns c d h =
    let known = known_of (take (length c.args.rows.now) (entries_of c.args.scope.now)) in
    subst (λ names. Finds c.loop-name.reads (λ q. list_any (named_answer d known q) names))
    (whole_front name_items c.args.names.now c.loop-name.name-index c.loop-name-test.false) (c.loop-name.invariant d h)
