-- What the text of a device's fuses is read as (this project's rule).
use Rattle.std.specs.Prelude.{ℕ, Bool, List}
use Rattle.decompiler.specs.Prelude.{Table, ModuleTree, IsRead, IsSourceTree, source_of}
use Rattle.decompiler.specs.Right.{IsRightSource}

-- the text is read as the module of the fuses' source
abbrev pub IsReadAsSource : Table → List Bool → List ℕ → Type 0
IsReadAsSource t fuses text = (m : ModuleTree) × IsSourceTree (source_of t fuses) m × IsRead text m

-- the text is read as a module that is compiled as it is, and says what the device with the fuses does
pub record IsDecompiled (t : Table) (fuses : List Bool) (text : List ℕ) : Type 0 where
  pub source : ModuleTree
  pub read : IsRead text source
  pub right : IsRightSource t fuses source
