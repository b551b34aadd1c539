-- Files in the forms that programmers want (this project's rule).
use Rattle.std.specs.Prelude.{◌≡◌, ◌==◌, ℕ, ◌≤◌, if◌then◌else◌, Bool, false, List, [], ◌∷◌, ◌++◌, length, take, Option, Some, None, Ok}
use Rattle.devices.specs.Atf22V10CTable.{atf22v10c}
use Rattle.devices.specs.Gal22V10Table.{gal22v10}
use Rattle.fuse_forms.specs.Binary.{IsBinary}
use Rattle.fuse_forms.specs.Prelude.{FuseFile, Table, contents, file_of, limit}
use Rattle.fuse_forms.specs.declared.forms.Form.{Form}
use Rattle.fuse_forms.specs.declared.forms.Form.TheVariants as form
use Rattle.jedec_reader.specs.declared.fuse_file.FuseFile as kept
use Rattle.pld_base.specs.declared.device_name.DeviceName.{DeviceName}
use Rattle.pld_base.specs.declared.device_name.DeviceName.TheVariants as device

-- the file with other levels, of which so many are listed
abbrev pub relisted : FuseFile → List Bool → (listed : ℕ) → FuseFile
relisted file levels listed = record file { fuses = levels; listed = listed }

-- the levels of a GAL22V10 without the last fuse of an ATF22V10C, and with it
abbrev pub without_spare : List Bool → List Bool
without_spare fuses = take 5892 fuses

abbrev pub with_spare : List Bool → List Bool
with_spare fuses = if length fuses == 5893 then fuses else fuses ++ false ∷ []

-- the bytes are within the limit of a fuse file, and say this
pub record IsReadAs (t : Table) (bytes : List ℕ) (file : FuseFile) : Type 0 where
  pub within : length bytes ≤ limit
  pub read : file_of t bytes ≡ Ok file

-- the bytes are the file in the form: its fuses and vectors as a fuse file says them, or its fuses in the binary form
abbrev pub IsInForm : Table → Form → kept.FuseFile → (bytes : List ℕ) → Type 0
IsInForm t form.Jed file bytes = IsReadAs t bytes (relisted (contents t file) file.fuses t.fuses)
IsInForm t form.Jed5828 file bytes =
    IsReadAs gal22v10 bytes (relisted (contents gal22v10 file) (without_spare file.fuses) 5828)
IsInForm t form.Jed5893 file bytes =
    IsReadAs atf22v10c bytes (relisted (contents atf22v10c file) (with_spare file.fuses) 5893)
IsInForm t form.Bin file bytes = IsBinary file.fuses bytes

-- the first fuse of a device's signature
abbrev pub signature_of : DeviceName → Option ℕ
signature_of device.GAL16V8 = Some 2056
signature_of device.GAL16V8C = Some 2056
signature_of device.GAL16V8R4 = Some 2056
signature_of device.GAL16V8R6 = Some 2056
signature_of device.GAL16V8R8 = Some 2056
signature_of device.GAL20V8 = Some 2568
signature_of device.GAL22V10 = Some 5828
signature_of device.ATF22V10C = Some 5828
signature_of device.GAL18V10 = Some 3476
signature_of other = None
