-- The bits of a row, under an extension with which it reads no leaf.
use Rattle.std.proofs.Common.{sym, slice_get, subst, ◌∙◌}
use Rattle.expr_bits.proofs.Common.{ALeaf, here_term, IsKeptIf}
use Rattle.expr_bits.proofs.RowLaws.{row_here}
use Rattle.expr_bits.proofs.rows.bits_at.Goals as goal

pub returns-in-Some-bits : goal.returns-in-Some-bits
returns-in-Some-bits c es d h =
    let k = c.args.number in
    let e = c.args.extension in
    let t = here_term es k (slice_get es k) in
    let lookup = c.in-Some.ensures.lookup in
    let row = row_here es d c.args.rows.now k c.in-Some.row.now h lookup.3.0 lookup.1 in
    (subst (λ o. IsKeptIf d o t) c.in-Some-bits.is row.1) e (sym (row.0 (ALeaf e)) ∙ sym c.leaf.ensures ∙ c.if-leaf.false)
