-- The declarations of the section.
use Rattle.std.proofs.Common.{[], ◌∷◌, sym, ap, ◌∙◌}
use Rattle.decls.proofs.Common.{list_any, view_section, section_declarations, says_buffer}
use Rattle.decls.proofs.BufferStrings.{one_same, some_say}
use Rattle.decls.proofs.buffers.section_says_buffer.Goals as goal

pub returns-in-Declarations : goal.returns-in-Declarations
returns-in-Declarations c =
    c.some_say_buffer.ensures
    ∙ (ap some_say c.as_slice.ensures
    ∙ (one_same c.in-Declarations.decls
    ∙ sym (ap (λ x. list_any says_buffer (section_declarations (view_section x ∷ []))) c.in-Declarations.is)))
