-- In the declarations, or else in those of the sections.
use Rattle.std.proofs.Common.{sym, ap, ◌∙◌}
use Rattle.decls.proofs.BufferStrings.{found_before, found_behind, sections_say, some_say}
use Rattle.decls.proofs.buffers.module_says_buffer.Goals as goal

pub returns-then-some_say_buffer : goal.returns-then-some_say_buffer
returns-then-some_say_buffer c =
    let m = c.args.source.now in
    let said = sym (c.some_say_buffer.ensures ∙ ap some_say c.as_slice.ensures) ∙ c.if-some_say_buffer.true in
    c.if-some_say_buffer.true ∙ found_before m.decls m.sections said

pub returns-else-some_say_buffer : goal.returns-else-some_say_buffer
returns-else-some_say_buffer c =
    let m = c.args.source.now in
    let unsaid = sym (c.some_say_buffer.ensures ∙ ap some_say c.as_slice.ensures) ∙ c.if-some_say_buffer.false in
    c.sections_say_buffer.ensures
    ∙ (ap sections_say c.as_slice-else-some_say_buffer.ensures ∙ found_behind m.decls m.sections unsaid)
