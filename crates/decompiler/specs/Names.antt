-- What is refused of the names of a decompiled source: nothing (this project's rule).
use Rattle.std.specs.Prelude.{◌≡◌, Bool, List, []}
use Rattle.decompiler.specs.Prelude.{IsDevice, Table, ModuleTree, IsSourceTree, source_of}
use Rattle.decls.specs.NameRefusals.{name_refusals}

-- nothing is refused of the names of a module that is the fuses' source
abbrev pub NamesAreUnrefused : Type 0
NamesAreUnrefused = (t : Table) (fuses : List Bool) (m : ModuleTree) → IsDevice t → IsSourceTree (source_of t fuses) m → name_refusals t m ≡ []
