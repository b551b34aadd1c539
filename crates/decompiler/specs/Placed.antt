-- That a decompiled source has nothing to place (this project's rule).
use Rattle.std.specs.Prelude.{Bool, List}
use Rattle.decompiler.specs.Prelude.{IsDevice, Table, ModuleTree, IsPlacedModule, IsSourceTree, source_of}

-- a module that is the fuses' source is its own placed module
abbrev pub SourcesArePlaced : Type 0
SourcesArePlaced = (t : Table) (fuses : List Bool) (m : ModuleTree) → IsDevice t → IsSourceTree (source_of t fuses) m → IsPlacedModule t m m
