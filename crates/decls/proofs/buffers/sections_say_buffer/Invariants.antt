-- None so far.
use Rattle.std.proofs.Common.{◌≡◌, false, [], ◌∷◌, take}
use Rattle.decls.proofs.Common.{list_any, Section, view_section, section_declarations, says_buffer}
use Rattle.decls.proofs.buffers.sections_say_buffer.Given as goal

abbrev pub invariant-loop-section : goal.invariant-loop-section
invariant-loop-section l =
    list_any (λ (x : Section). list_any says_buffer (section_declarations (view_section x ∷ []))) (take l.section-index l.sections) ≡ false
