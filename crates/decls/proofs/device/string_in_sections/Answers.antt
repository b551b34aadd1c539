-- The first string is found at its place, or there isn't one.
use Rattle.std.proofs.Common.{sym, ap, ◌∙◌, option_copied}
use Rattle.decls.proofs.FirstStrings.{none_more, found_here, sections_string, sections_parts}
use Rattle.decls.proofs.device.string_in_sections.Goals as goal

pub returns-in-Some : goal.returns-in-Some
returns-in-Some c =
    found_here sections_string sections_parts c.args.sections.now c.loop-section.section-index c.section-item.result c.in-Some.text.now c.loop-section-test.true c.section-item.is c.loop-section.invariant (sym (ap option_copied c.in-Some.is) ∙ c.string_of_section.ensures)

pub loop-section-preserved : goal.loop-section-preserved
loop-section-preserved c =
    none_more sections_string sections_parts c.args.sections.now c.loop-section.section-index c.section-item.result c.loop-section-test.true c.section-item.is c.loop-section.invariant (sym c.string_of_section.ensures ∙ ap option_copied c.in_default.is)
