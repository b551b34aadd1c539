-- The declarations of a module, also those of its sections.
use Rattle.std.specs.Prelude.{List, ◌++◌}
use Rattle.decls.specs.Prelude.{Declaration, ModuleTree, section_declarations}

-- all declarations in their order
abbrev pub all_declarations : ModuleTree → List Declaration
all_declarations m = m.decls ++ section_declarations m.sections
