-- The fuse file that bytes are, and the three refusals of bytes that aren't one, for each command on fuse files (this
-- project's rule).
use Rattle.std.specs.Prelude.{◌≡◌, ◌≢◌, ℕ, ◌≤◌, List, ◌++◌, length, Ok, Err, Some, codes}
use Rattle.fuse_reports.specs.Prelude.{decimal, Table, JedecFault, FuseFile, file_of, contents}
use Rattle.pld_device.specs.FixedFuses.{wrong_fixed}
pub use Rattle.jedec_reader.specs.DeviceFiles.{IsFileOf}
use Rattle.jedec_file.specs.declared.jedec_fault.JedecFault.TheVariants as fault
use Rattle.fuse_reports.specs.Ending.{limit, IsTooLong}
use Rattle.fuse_reports.specs.declared.taken.Taken.{Taken}
use Rattle.fuse_reports.specs.declared.taken.Taken.TheVariants as taken
use Rattle.fuse_reports.specs.Ending.{too_long_line}
use Rattle.fuse_reports.specs.FaultText.{fault_line}

-- the bytes are a fuse file of the device
abbrev pub IsGoodFile : Table → (bytes : List ℕ) → Type 0
IsGoodFile t bytes = (file : FuseFile) × IsFileOf t bytes file

-- ---- refusals

-- why bytes are no fuse file of the device: they are too long, or not read as one, or this fuse has another level than the one
-- that the device fixes
pub data FileRefusal : Type 0 where
  TooLong : FileRefusal
  Unread : (fault : JedecFault) → FileRefusal
  WrongMode : (fuse : ℕ) → FileRefusal

-- the bytes are within the limit, and reading them has this refusal first; lack of memory isn't one
pub record IsUnread (t : Table) (bytes : List ℕ) (refusal : JedecFault) : Type 0 where
  pub within : length bytes ≤ limit
  pub read : file_of t bytes ≡ Err refusal
  pub refuses : refusal ≢ fault.OutOfMemory

-- the bytes are within the limit and spell a fuse file, in which this is the first fuse with another level
pub record IsInWrongMode (t : Table) (bytes : List ℕ) (fuse : ℕ) : Type 0 where
  pub within : length bytes ≤ limit
  pub file : FuseFile
  pub read : file_of t bytes ≡ Ok file
  pub first : wrong_fixed file.fuses t.fixed ≡ Some fuse

-- the bytes have this refusal
abbrev pub IsRefusedAs : Table → (bytes : List ℕ) → FileRefusal → Type 0
IsRefusedAs t bytes TooLong = IsTooLong bytes
IsRefusedAs t bytes (Unread refusal) = IsUnread t bytes refusal
IsRefusedAs t bytes (WrongMode fuse) = IsInWrongMode t bytes fuse

-- the bytes are no fuse file of the device
abbrev pub IsBadFile : Table → (bytes : List ℕ) → Type 0
IsBadFile t bytes = (refusal : FileRefusal) × IsRefusedAs t bytes refusal

-- ---- lines on them

-- the line on a fuse with another level
abbrev pub wrong_mode_line : (fuse : ℕ) → List ℕ
wrong_mode_line fuse = codes "error WrongMode " ++ decimal fuse ++ codes "\n"

-- the line on a refusal
abbrev pub refusal_line : (bytes : List ℕ) → FileRefusal → List ℕ
refusal_line bytes TooLong = too_long_line
refusal_line bytes (Unread refusal) = fault_line bytes refusal
refusal_line bytes (WrongMode fuse) = wrong_mode_line fuse

-- the bytes are no fuse file of the device, and this is the line on why
abbrev pub IsRefusedFile : Table → (bytes report : List ℕ) → Type 0
IsRefusedFile t bytes report =
    (refusal : FileRefusal) × IsRefusedAs t bytes refusal × (report ≡ refusal_line bytes refusal)

-- what bytes within the limit amount to, as the code keeps it
abbrev pub IsTaken : Table → (bytes : List ℕ) → Taken → Type 0
IsTaken t bytes (taken.File file) = IsFileOf t bytes (contents t file) × (length file.fuses ≡ t.fuses)
IsTaken t bytes (taken.Refused line) = IsRefusedFile t bytes line.items
