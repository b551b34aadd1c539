-- Nothing is refused, and the first refusal.
use Rattle.std.proofs.Common.{List, sym, ap, ap₂, subst, ◌∙◌}
use Rattle.source_sections.proofs.Common.{Names, entries_of, first_refusal, Contribution, section_order, standing, at, AreContributed, sections_refused, constants_refused}
use Rattle.source_sections.proofs.SectionsAnswered.{accepted_right, contributed, told_of}
use Rattle.source_sections.proofs.SourceAnswers.{constants_told, designed, source_told, source_walked}
use Rattle.source_sections.proofs.joining.contributions.Goals as goal

pub returns-in-None : goal.returns-in-None
returns-in-None g c =
    let t = g.D.Device.table in
    let n = c.args.scope.now in
    let m = c.args.source.now in
    let d = designed t n m in
    let old = c.new-out.result in
    let new = c.walk_sections.new.out in
    let w = source_walked t n m c.as_slice-sections.result.now c.as_slice.result.now c.after_declarations-starts_dontcare.result old new c.as_slice-sections.ensures c.as_slice.ensures c.after_declarations-starts_dontcare.ensures c.in_ok-walk_sections.ensures in
    let checked = c.err-constant.ensures.value ∙ constants_told (entries_of c.scope.result.now) c.check_constants.result c.check_constants.ensures.accepted c.check_constants.ensures.refused in
    let constant = checked ∙ ap (λ (names : Names). first_refusal section_order (constants_refused (entries_of names))) c.scope.ensures in
    let first = source_told t n m c.err-constant.result old new w c.new-out.ensures.fault c.new-out.ensures.exprs constant in
    subst (λ (cs : List Contribution). AreContributed d (at new.exprs cs)) (sym c.from_vec.ensures)
    (contributed d (standing old) (standing new) (ap₂ at c.new-out.ensures.exprs c.new-out.ensures.list) (sym c.in-None.is ∙ c.earlier.ensures ∙ first)
    (w.given (accepted_right c.err-constant.result new.fault (sym c.earlier.ensures ∙ c.in-None.is))))

pub returns-in-Some : goal.returns-in-Some
returns-in-Some g c =
    let t = g.D.Device.table in
    let n = c.args.scope.now in
    let m = c.args.source.now in
    let old = c.new-out.result in
    let new = c.walk_sections.new.out in
    let w = source_walked t n m c.as_slice-sections.result.now c.as_slice.result.now c.after_declarations-starts_dontcare.result old new c.as_slice-sections.ensures c.as_slice.ensures c.after_declarations-starts_dontcare.ensures c.in_ok-walk_sections.ensures in
    let checked = c.err-constant.ensures.value ∙ constants_told (entries_of c.scope.result.now) c.check_constants.result c.check_constants.ensures.accepted c.check_constants.ensures.refused in
    let constant = checked ∙ ap (λ (names : Names). first_refusal section_order (constants_refused (entries_of names))) c.scope.ensures in
    let first = source_told t n m c.err-constant.result old new w c.new-out.ensures.fault c.new-out.ensures.exprs constant in
    told_of (sections_refused (designed t n m)) c.in-Some.fault (sym first ∙ sym c.earlier.ensures ∙ c.in-Some.is)
