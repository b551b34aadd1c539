-- A fuse file of one device written as one of another (this project's rule: what a file says beside its fuses is kept).
use Rattle.std.specs.Prelude.{◌≡◌, ℕ, List, Ok}
use Rattle.fuse_porting.specs.Prelude.{device_logic, FuseFile, file_of, Table}
use Rattle.fuse_porting.specs.AllowSame.{AllowSame, HasSameMismatches}
use Rattle.fuse_porting.specs.SameArray.{IsCarriedOver}
use Rattle.spliced_files.specs.Spliced.{spliced}

-- what the other file says: the fuses of the first, carried over, with which its device does the same and has the same mismatches
-- of any vectors; and the vectors and the level of undriven pins of the first
pub record IsPortOf (f t : Table) (file other : FuseFile) : Type 0 where
  pub carried : IsCarriedOver f t file.fuses other.fuses
  pub same : AllowSame (device_logic f file.fuses) (device_logic t other.fuses)
  pub mismatches : HasSameMismatches (device_logic f file.fuses) (device_logic t other.fuses)
  pub listed : other.listed ≡ t.fuses
  pub vectors : other.vectors ≡ file.vectors
  pub default_level : other.default_level ≡ file.default_level

-- the bytes are such a file, written with the name in the header of the first bytes, and with all fields of these that don't
-- speak of fuses, in their order
pub record IsPortedFile (f t : Table) (bytes : List ℕ) (file : FuseFile) (out : List ℕ) : Type 0 where
  pub other : FuseFile
  pub read : file_of t out ≡ Ok other
  pub port : IsPortOf f t file other
  pub written : spliced f t other.fuses bytes ≡ Ok out
