-- A section of vectors, and another one.
use Rattle.std.proofs.Common.{subst, sym, ap, length}
use Rattle.abel_vectors.proofs.Common.{view_section, context_for, FindsSection}
use Rattle.abel_vectors.proofs.SectionLaws.{other_found, section_found}
use Rattle.abel_vectors.proofs.sections.add_section.Goals as goal

pub returns-in_ok-read_section-in-Vectors : goal.returns-in_ok-read_section-in-Vectors
returns-in_ok-read_section-in-Vectors g c n room =
    let d = context_for g.D.Device.table c.args.on.now.scope.now in
    let v = c.in-Vectors.section in
    subst (λ s. FindsSection d n (view_section s) c.saturating_sub.result c.args.found.now c.read_section.new.found) (sym c.in-Vectors.is)
    (section_found d n c.args.room c.saturating_sub.result (length c.as_slice.result.now) v c.args.found.now c.read_section.new.found room c.saturating_sub.ensures (ap length c.as_slice.ensures)
    (c.in_ok-read_section-in-Vectors.ensures n room))

pub returns-in_default : goal.returns-in_default
returns-in_default g c n room = other_found (context_for g.D.Device.table c.args.on.now.scope.now) n c.args.room c.args.section.now c.args.found.now c.in_default.not-Vectors room
