-- No section, one more, and the answer for all.
use Rattle.std.proofs.Common.{List, ◌+◌, ◌∷◌, drop, length, sym, refl, ap, ◌∙◌, subst, arith}
use Rattle.abel_vectors.proofs.Common.{IfOk-weaker, Section, at_drop_more, drop_all, view_section, section_vectors, design_vectors, sections_vectors, context_for, view_sections, designed, Finds, IsFound, all_vectors_refused, refused_behind}
use Rattle.abel_vectors.proofs.FoundLaws.{all_found, finds_none}
use Rattle.abel_vectors.proofs.SectionLaws.{all_few, answer_few, answer_test, sections_behind}
use Rattle.abel_vectors.proofs.TestChars.{sections_test}
use Rattle.abel_vectors.proofs.sections.all_vectors.Goals as goal

pub loop-section-init : goal.loop-section-init
loop-section-init g c = (0, refl, λ later k. k)

pub loop-section-preserved : goal.loop-section-preserved
loop-section-preserved g c =
    let d = context_for g.D.Device.table c.args.scope.now in
    let list = c.as_slice-section-items.result.now in
    let i = c.loop-section.section-index in
    let x = c.section-item.result in
    let v = c.loop-section.invariant in
    let here = c.in_ok-room.ensures v.0 v.1 in (
      v.0 + length (section_vectors d (view_section x)),
      here.room,
      λ later others. v.2 later
          (sections_behind d v.0 c.in_ok-room.room (view_section x) (view_sections (drop i list)) (view_sections (drop (i + 1) list)) c.loop-section.found c.add_section.new.found later
          (at_drop_more view_sections list i x c.loop-section-test.true ∙ ap (λ y. view_section y ∷ view_sections (drop (i + 1) list)) (sym c.section-item.is)) here others),
    )

pub returns : goal.returns
returns g c =
    let t = g.D.Device.table in
    let d = designed t c.args.scope.now c.args.source.now in
    let rs = all_vectors_refused d in
    let texts = design_vectors d in
    let list = c.as_slice-section-items.result.now in
    let found = c.loop-section.found in
    let v = c.loop-section.invariant in
    let none = drop_all c.loop-section.section-index list (omega (arith, c.loop-section-test.false)) in
    let answers = c.answer.ensures t rs texts
    (subst (λ (xs : List Section). IsFound t (refused_behind d.context 0 (view_sections xs)) (sections_vectors d.context (view_sections xs)) found) c.as_slice-section-items.ensures
    (all_found t (refused_behind d.context 0 (view_sections list)) (sections_vectors d.context (view_sections list)) c.new-found.result found c.new-found.ensures
    (v.2 found (subst (λ xs. Finds t (refused_behind d.context v.0 (view_sections xs)) (sections_vectors d.context (view_sections xs)) found found) (sym none) (finds_none t found))))) in
    record {
      answers = answers;
      few = IfOk-weaker c.answer.result _ _ (λ list low. omega (arith, low)) (answer_few t rs texts 0 c.answer.result (all_few d.context 0 d.sections (omega arith)) answers);
      chars = answer_test t rs texts c.answer.result (sections_test d.context d.sections) answers;
    }
