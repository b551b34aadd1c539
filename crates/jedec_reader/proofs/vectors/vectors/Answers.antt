use Rattle.std.proofs.Common.{◌≡◌, ◌∙◌, ap, sym, subst, List, All}
use Rattle.jedec_reader.proofs.Common.{IfOk-weaker, Vector, vectors_of, all_chars, IsPadded, present}
use Rattle.jedec_reader.proofs.NumberedVectors.{vectors_said, present_padded}
use Rattle.jedec_reader.proofs.vectors.vectors.Goals as goal

pub returns-clause-chars : goal.returns-clause-chars
returns-clause-chars g c =
    IfOk-weaker c.present.result (λ vectors. vectors.items ≡ present c.deref.result.now) (λ vectors. all_chars g.D.Device.table vectors.items ≡ vectors_of g.D.Device.table c.args.fields.now)
    (λ vectors is.
    ap (all_chars g.D.Device.table) (is ∙ ap present c.deref.ensures.value)
    ∙ vectors_said g.D.Device.table c.args.fields.now c.in_ok-table.table.items c.requires c.in_ok-table.ensures.vectors c.in_ok-table.ensures.numbers)
    c.present.ensures

pub returns-clause-padded : goal.returns-clause-padded
returns-clause-padded g c =
    IfOk-weaker c.present.result (λ vectors. vectors.items ≡ present c.deref.result.now) (λ vectors. All (IsPadded g.D.Device.table) vectors.items)
    (λ vectors is.
    subst (λ (items : List Vector). All (IsPadded g.D.Device.table) items) (sym (is ∙ ap present c.deref.ensures.value))
    (present_padded g.D.Device.table c.in_ok-table.table.items c.in_ok-table.ensures.vectors.padded))
    c.present.ensures
