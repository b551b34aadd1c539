use Rattle.std.proofs.Common.{List, length, ap, sym, ◌∙◌, subst}
use Rattle.equations.proofs.Common.{length-reverse, arena, ExprId, view, formulas, term_of, context_for, AreBits}
use Rattle.equations.proofs.BuiltParts.{bits_reversed, bits_length, met_length}
use Rattle.equations.proofs.values.value_bits.Goals as goal

pub returns-clause-width : goal.returns-clause-width
returns-clause-width g c =
    let s = c.in_ok-shaped.ensures.shaped in
    ap length c.reverse.ensures.items ∙ length-reverse c.in_ok-ids.ids.items
    ∙ bits_length (arena c.unit_bits.new.exprs) c.in_ok-ids.ids.items _ (c.in_ok-ids.ensures c.unit_bits.new.exprs _ _ s)
    ∙ met_length c.args.meets.signals (arena c.unit_bits.new.exprs) c.in_ok-shaped.shaped _ _ s

pub returns-clause-bits : goal.returns-clause-bits
returns-clause-bits g c =
    let d = context_for g.D.Device.table c.args.scope.now in
    subst (λ (ids : List ExprId). AreBits (arena c.unit_bits.new.exprs) ids ((formulas d).word c.args.meets.signals (term_of d.known (view c.args.value.now)))) (sym c.reverse.ensures.items)
    (bits_reversed (arena c.unit_bits.new.exprs) c.in_ok-ids.ids.items _ (c.in_ok-ids.ensures c.unit_bits.new.exprs _ _ c.in_ok-shaped.ensures.shaped))
