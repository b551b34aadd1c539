-- The answer for one section.
use Rattle.std.proofs.Common.{rules}
use Rattle.abel_vectors.proofs.Common.{view_section, section_vectors, context_for, vectors_refused}
use Rattle.abel_vectors.proofs.FoundLaws.{all_found}
use Rattle.abel_vectors.proofs.SectionLaws.{answer_few, answer_test, section_few}
use Rattle.abel_vectors.proofs.TestChars.{section_test}
use Rattle.abel_vectors.proofs.sections.vectors.Goals as goal

pub returns : goal.returns
returns g c =
    let t = g.D.Device.table in
    let d = context_for t c.args.scope.now in
    let n = c.args.before in
    let s = view_section c.args.section.now in
    let rs = vectors_refused d n s in
    let texts = section_vectors d s in
    let here = c.in_ok-add_section.ensures n (search rules) in
    let answers = c.answer.ensures t rs texts (all_found t rs texts c.new-found.result c.add_section.new.found c.new-found.ensures here.finds) in
    record {
      answers = answers;
      few = answer_few t rs texts n c.answer.result (section_few d n s c.requires.before) answers;
      chars = answer_test t rs texts c.answer.result (section_test d s) answers;
    }
