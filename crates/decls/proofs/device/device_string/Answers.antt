-- The string is in the declarations, or in those of the sections.
use Rattle.std.proofs.Common.{map, sym, ap, ◌∙◌, option_copied}
use Rattle.decls.proofs.Common.{view_decl, view_section, section_declarations, first_string}
use Rattle.decls.proofs.FirstStrings.{first_part, second_part}
use Rattle.decls.proofs.device.device_string.Goals as goal

pub returns-in-Some : goal.returns-in-Some
returns-in-Some c =
    first_part (map view_decl c.args.source.now.decls) (section_declarations (map view_section c.args.source.now.sections)) c.in-Some.string.now (sym (ap option_copied c.in-Some.is) ∙ (c.string_among.ensures ∙ ap (λ ds. first_string (map view_decl ds)) c.as_slice.ensures))

pub returns-in-None : goal.returns-in-None
returns-in-None c =
    second_part (map view_decl c.args.source.now.decls) (section_declarations (map view_section c.args.source.now.sections)) _ (sym (c.string_among.ensures ∙ ap (λ ds. first_string (map view_decl ds)) c.as_slice.ensures) ∙ ap option_copied c.in-None.is) (c.string_in_sections.ensures ∙ ap (λ xs. first_string (section_declarations (map view_section xs))) c.as_slice-in-None.ensures)
