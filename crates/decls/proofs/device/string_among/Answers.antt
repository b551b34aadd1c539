-- The first string is found at its place, or there isn't one.
use Rattle.std.proofs.Common.{map, sym, ap, ◌∙◌, option_copied}
use Rattle.decls.proofs.Common.{view_decl, first_string}
use Rattle.decls.proofs.FirstStrings.{none_more, found_here, decls_parts}
use Rattle.decls.proofs.device.string_among.Goals as goal

pub returns-in-Some : goal.returns-in-Some
returns-in-Some c =
    found_here (λ ds. first_string (map view_decl ds)) decls_parts c.args.decls.now c.loop-decl.decl-index c.decl-item.result c.in-Some.text.now c.loop-decl-test.true c.decl-item.is c.loop-decl.invariant (sym (ap option_copied c.in-Some.is) ∙ c.string_of.ensures)

pub loop-decl-preserved : goal.loop-decl-preserved
loop-decl-preserved c =
    none_more (λ ds. first_string (map view_decl ds)) decls_parts c.args.decls.now c.loop-decl.decl-index c.decl-item.result c.loop-decl-test.true c.decl-item.is c.loop-decl.invariant (sym c.string_of.ensures ∙ ap option_copied c.in_default.is)
