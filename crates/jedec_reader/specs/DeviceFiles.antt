-- Which bytes are a fuse file of a device, for each command that reads one (the limit and the mode: this project's rule).
use Rattle.std.specs.Prelude.{◌≡◌, ℕ, ◌≤◌, List, length, Ok}
use Rattle.pld_device.specs.FixedFuses.{HasFixedLevels}
use Rattle.pld_device.specs.Table.{Table}
use Rattle.jedec_file.specs.FuseFile.{FuseFile, file_of}

-- the bytes that a source or a fuse file may have
abbrev pub limit : ℕ
limit = 1048576

-- the bytes are within the limit and spell this fuse file of the device, which has each level that the device fixes
pub record IsFileOf (t : Table) (bytes : List ℕ) (file : FuseFile) : Type 0 where
  pub within : length bytes ≤ limit
  pub read : file_of t bytes ≡ Ok file
  pub mode : HasFixedLevels t file.fuses
