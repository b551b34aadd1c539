-- A constant's name, and what is no operator after a name.
use Rattle.std.proofs.Common.{None, sym, ap, ◌∙◌, subst}
use Rattle.truth_tables.proofs.Common.{view, term_named, term_of, view_name, IsStand, is_computed}
use Rattle.truth_tables.proofs.InputLaws.{computed_extended}
use Rattle.truth_tables.proofs.inputs.has_operator.Goals as goal

pub returns-in-Part : goal.returns-in-Part
returns-in-Part c d is =
    let w = c.in-Name.word.text in
    let none = subst (λ s. IsStand d None s (term_named d.known c.bytes.result.now)) c.in-Part.is (c.stand_of.ensures.stand d is) in
    sym (c.loop-at.invariant d is
    ∙ ap (λ e. is_computed (term_of d.known e)) (ap view c.in-Name.is ∙ view_name c.in-Name.word c.in-Name.extension)
    ∙ computed_extended c.in-Name.extension (term_named d.known w)
    ∙ ap (λ t. is_computed (term_named d.known t)) (sym c.bytes.ensures)
    ∙ none.1)

pub loop-at-preserved-in-Constant : goal.loop-at-preserved-in-Constant
loop-at-preserved-in-Constant c d is =
    let w = c.in-Name.word.text in
    c.loop-at.invariant d is
    ∙ ap (λ e. is_computed (term_of d.known e)) (ap view c.in-Name.is ∙ view_name c.in-Name.word c.in-Name.extension)
    ∙ computed_extended c.in-Name.extension (term_named d.known w)
    ∙ ap (λ t. is_computed (term_named d.known t)) (sym c.bytes.ensures)
    ∙ ap is_computed (subst (λ s. IsStand d None s (term_named d.known c.bytes.result.now)) c.in-Constant.is (c.stand_of.ensures.stand d is))
