-- What checking a fuse file shows: its numbers (this project's rule).
use Rattle.std.specs.Prelude.{◌≡◌, ℕ, List, ◌++◌, length, codes}
use Rattle.fuse_reports.specs.Prelude.{decimal, device_text, four_hex, FuseFile, fuse_sum_of, Table}
use Rattle.pld_device.specs.OpenedFuses.{opened_of}
use Rattle.fuse_reports.specs.FuseFiles.{IsFileOf}

-- the line on a fuse file: the number of fuses that it names, how many are opened, their sum, and the number of vectors
abbrev pub checked_line : Table → FuseFile → List ℕ
checked_line t file =
    codes "checked " ++ device_text t.name
    ++ codes " fuses " ++ decimal file.listed
    ++ codes " opened " ++ decimal (opened_of file.fuses)
    ++ codes " sum " ++ four_hex (fuse_sum_of file.fuses)
    ++ codes " vectors " ++ decimal (length file.vectors)
    ++ codes "\n"

-- the bytes are a fuse file of the device, and this is the line on it
pub record IsChecked (t : Table) (bytes report : List ℕ) : Type 0 where
  pub file : FuseFile
  pub of : IsFileOf t bytes file
  pub told : report ≡ checked_line t file
