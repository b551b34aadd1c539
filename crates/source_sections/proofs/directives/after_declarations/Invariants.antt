-- After the declarations that are left it is what it is after all.
use Rattle.std.proofs.Common.{◌≡◌, drop, map}
use Rattle.source_sections.proofs.Common.{view_decl, after_declarations}
use Rattle.source_sections.proofs.directives.after_declarations.Given as goal

abbrev pub invariant-loop-decl : goal.invariant-loop-decl
invariant-loop-decl l = after_declarations l.on (map view_decl (drop l.decl-index l.decls)) ≡ after_declarations l.fn.on (map view_decl l.decls)
