-- What is left of both values in one width, as one bit without X.
use Rattle.std.proofs.Common.{length, true, Result, Ok, Err, refl, sym, ap, ◌∙◌, subst, arith}
use Rattle.expr_bits.proofs.Common.{err_from_is_err_and, arena, ExprFault, ExprId, binary_by, Bits, AllIn, Makes, ShowsOne, word_at, related_part, IsPart, relation_of}
use Rattle.expr_bits.proofs.Making.{stopped}
use Rattle.expr_bits.proofs.OperatedBits.{relation_made, one_made}
use Rattle.expr_bits.proofs.value_operators.related.Goals as goal

pub kept_relation-requires-clause-first : goal.kept_relation-requires-clause-first
kept_relation-requires-clause-first c =
    let p = c.requires.left.part in
    subst (AllIn (length (arena c.args.exprs.now))) (sym c.as_slice-2.ensures.value) (c.in_ok-first.ensures.shows c.args.exprs.now p.value p.word c.requires.left.is).0

pub kept_relation-requires-clause-second : goal.kept_relation-requires-clause-second
kept_relation-requires-clause-second c =
    let p = c.requires.right.part in
    subst (AllIn (length (arena c.args.exprs.now))) (sym c.as_slice-3.ensures.value) (c.in_ok-second.ensures.shows c.args.exprs.now p.value p.word c.requires.right.is).0

pub returns-in_err-bit : goal.returns-in_err-bit
returns-in_err-bit c p q l r =
    let ns = c.args.exprs.now in
    let new = c.kept_relation.new.exprs in
    let e = err_from_is_err_and c.from_residual-in_err-bit.result c.from_residual-in_err-bit.ensures.1 in
    let bit : Makes {R = ExprId} ShowsOne ns new (Err e.0) (relation_of c.args.sign p q) =
    relation_made ns new (Err e.0) c.args.sign p q c.width_of_both-width.result c.as_slice.result.now c.as_slice-2.result.now c.as_slice-3.result.now
    (c.width_of_both-width.ensures p.value q.value l.form r.form)
    (c.as_slice.ensures.value ∙ c.in_ok-flags.ensures (arena ns) p.value q.value p.word q.word l r)
    (ap (word_at (arena ns)) c.as_slice-2.ensures.value ∙ (c.in_ok-first.ensures.shows ns p.value p.word l).1)
    (ap (word_at (arena ns)) c.as_slice-3.ensures.value ∙ (c.in_ok-second.ensures.shows ns q.value q.word r).1)
    (rw e.2 c.in_err-bit.ensures) in
    subst (λ (x : Result Bits ExprFault). Makes IsPart ns new x (related_part c.args.sign p q)) (sym e.1)
    (stopped ShowsOne IsPart ns new e.0 (relation_of c.args.sign p q) (related_part c.args.sign p q) bit (omega arith))

pub returns : goal.returns
returns c p q l r =
    let ns = c.args.exprs.now in
    let new = c.kept_relation.new.exprs in
    one_made ns new c.in_ok-bit.bit c.in_ok-bits.bits (relation_of c.args.sign p q) (binary_by true c.args.sign p.value q.value)
    (relation_made ns new (Ok c.in_ok-bit.bit) c.args.sign p q c.width_of_both-width.result c.as_slice.result.now c.as_slice-2.result.now c.as_slice-3.result.now
    (c.width_of_both-width.ensures p.value q.value l.form r.form)
    (c.as_slice.ensures.value ∙ c.in_ok-flags.ensures (arena ns) p.value q.value p.word q.word l r)
    (ap (word_at (arena ns)) c.as_slice-2.ensures.value ∙ (c.in_ok-first.ensures.shows ns p.value p.word l).1)
    (ap (word_at (arena ns)) c.as_slice-3.ensures.value ∙ (c.in_ok-second.ensures.shows ns q.value q.word r).1)
    c.in_ok-bit.ensures)
    c.in_ok-bits.ensures refl refl
