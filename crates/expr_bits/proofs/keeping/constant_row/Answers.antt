-- What was built alone without a node.
use Rattle.std.proofs.Common.{length, take, Ok, Some, refl, sym, ◌∙◌, subst}
use Rattle.abel_tree.specs.declared.words.Extension.TheVariants as extension
use Rattle.expr_bits.proofs.Common.{ALeaf, entries_of, view, extended_if, known_of, term_of, context_for, Makes, IsPart, term_part}
use Rattle.expr_bits.proofs.RowLaws.{kept_alone, kept_under}
use Rattle.expr_bits.proofs.keeping.constant_row.Goals as goal

pub returns-then-made-eq0 : goal.returns-then-made-eq0
returns-then-made-eq0 g c =
    let n = c.args.scope.now in
    let d = context_for g.D.Device.table n in
    let x = Some extension.Clk in
    let t = term_of (known_of (take (length c.args.rows.now) (entries_of n))) (view c.args.expr.now) in
    let reads = c.in_ok-reads.ensures d c.requires.rows in
    let still = sym (reads (ALeaf x)) ∙ c.if-reads.false in
    let made = subst (λ old. Makes IsPart old c.walk.new.exprs (Ok c.in-Ok.bits) (term_part d (extended_if x t))) c.new-exprs.ensures (c.in-Ok.ensures (extended_if x t) refl) in
    let alone = kept_alone d c.walk.new.exprs c.in-Ok.bits (extended_if x t) (sym c.made.ensures ∙ c.if-made-eq0.true) made in
    (reads, λ e k. kept_under d extension.Clk e t c.in-Ok.bits still alone k)
