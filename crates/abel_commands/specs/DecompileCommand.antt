-- `decompile DEVICE IN`: how it ends, and what that means (this project's rule).
use Rattle.std.specs.Prelude.{◌≡◌, ℕ, ◌⊎◌, List, None}
use Rattle.abel_commands.specs.Prelude.{Table}
use Rattle.decompiled.specs.Sources.{decompiled_text}
use Rattle.decompiler.specs.Reading.{IsDecompiled, IsReadAsSource}
use Rattle.abel_commands.specs.Ending.{Ending, ends}
use Rattle.abel_commands.specs.FuseFiles.{IsRefusedFile}
use Rattle.abel_commands.specs.Loading.{CanLoad, IsBadToLoad, IsRefusedLoad}

-- the bytes are a fuse file of the device that is loaded, and this is the text of the source of its fuses: it is read as that
-- source, which is accepted, fits and says what the device with the fuses does
pub record IsDecompiledFile (t : Table) (bytes report : List ℕ) : Type 0 where
  pub of : CanLoad t bytes
  pub told : report ≡ decompiled_text t of.file.fuses
  pub read : IsReadAsSource t of.file.fuses report
  pub right : IsDecompiled t of.file.fuses report

-- how it ends: the source of the file's fuses is reported, or why there isn't one
abbrev pub DecompileEnds : Table → (bytes : List ℕ) → Ending → Type 0
DecompileEnds t bytes e =
    ((report : List ℕ) × IsDecompiledFile t bytes report × (e ≡ ends 0 report))
    ⊎ ((report : List ℕ) × (IsRefusedFile t bytes report ⊎ IsRefusedLoad t bytes report) × (e ≡ ends 4 report))

-- what such an ending means
pub record DecompileMeans (t : Table) (bytes : List ℕ) (e : Ending) : Type 0 where
  -- 0 and 4 are its statuses
  pub statuses : (e.status ≡ 0) ⊎ (e.status ≡ 4)
  -- 0 is answered exactly for a fuse file of the device that is loaded, and gives its source
  pub decompiled : e.status ≡ 0 → IsDecompiledFile t bytes e.text
  pub decompiled_where : CanLoad t bytes → e.status ≡ 0
  -- 4 is answered exactly for bytes that are no such file, or one that isn't loaded
  pub bad : e.status ≡ 4 → IsBadToLoad t bytes
  pub bad_where : IsBadToLoad t bytes → e.status ≡ 4
  -- nothing is written
  pub unwritten : e.output ≡ None
