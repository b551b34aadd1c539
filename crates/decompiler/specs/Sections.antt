-- What is refused of the equations of a decompiled source: nothing (this project's rule).
use Rattle.std.specs.Prelude.{◌≡◌, Bool, List, []}
use Rattle.decompiler.specs.Prelude.{IsDevice, Table, ModuleTree, design_of, IsSourceTree, source_of}
use Rattle.abel_vectors.specs.AllSections.{all_sections_refused}

-- nothing is refused of the constants, sections and vectors of a module that is the fuses' source
abbrev pub SectionsAreUnrefused : Type 0
SectionsAreUnrefused =
    (t : Table) (fuses : List Bool) (m : ModuleTree) → IsDevice t → IsSourceTree (source_of t fuses) m → all_sections_refused (design_of t m) ≡ []
