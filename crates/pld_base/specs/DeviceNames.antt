-- The devices by their names (the part names of the datasheets; the GAL16V8's by its modes, and that case does not count, are
-- this project's rules).
use Rattle.std.specs.Prelude.{ℕ, Option, Some, None, List, [], ◌∷◌, map, bytes_eq, codes, if◌then◌else◌}
use Rattle.std.specs.Str.{str_to_ascii_lowercase}
use Rattle.pld_base.specs.declared.device_name.DeviceName.{DeviceName}
use Rattle.pld_base.specs.declared.device_name.DeviceName.TheVariants as device

-- the bytes of a device's name, as it is in fuse files and reports
abbrev pub device_text : DeviceName → List ℕ
device_text device.P16L8 = codes "P16L8"
device_text device.P16R4 = codes "P16R4"
device_text device.P16R6 = codes "P16R6"
device_text device.P16R8 = codes "P16R8"
device_text device.GAL22V10 = codes "GAL22V10"
device_text device.GAL16V8C = codes "GAL16V8C"
device_text device.GAL16V8R4 = codes "GAL16V8R4"
device_text device.GAL16V8R6 = codes "GAL16V8R6"
device_text device.GAL16V8R8 = codes "GAL16V8R8"
device_text device.P20L8 = codes "P20L8"
device_text device.P20R4 = codes "P20R4"
device_text device.P20R6 = codes "P20R6"
device_text device.P20R8 = codes "P20R8"
device_text device.P20L10 = codes "P20L10"
device_text device.P16P8 = codes "P16P8"
device_text device.P18P8 = codes "P18P8"
device_text device.GAL18V10 = codes "GAL18V10"
device_text device.ATF22V10C = codes "ATF22V10C"
device_text device.GAL16V8 = codes "GAL16V8"
device_text device.GAL20V8 = codes "GAL20V8"

-- all of them
abbrev pub device_names : List DeviceName
device_names =
    device.P16L8 ∷ device.P16R4 ∷ device.P16R6 ∷ device.P16R8
    ∷ device.GAL22V10
    ∷ device.GAL16V8C ∷ device.GAL16V8R4 ∷ device.GAL16V8R6 ∷ device.GAL16V8R8
    ∷ device.P20L8 ∷ device.P20R4 ∷ device.P20R6 ∷ device.P20R8
    ∷ device.P20L10
    ∷ device.P16P8
    ∷ device.P18P8
    ∷ device.GAL18V10
    ∷ device.ATF22V10C
    ∷ device.GAL16V8 ∷ device.GAL20V8
    ∷ []

-- a device's name in lower case, with the device
abbrev pub lower_name : DeviceName → List ℕ × DeviceName
lower_name name = (str_to_ascii_lowercase (device_text name), name)

-- the names that a source or a command line may give, in lower case: those names, and a second one of the GAL22V10
abbrev pub device_strings : List (List ℕ × DeviceName)
device_strings = (codes "p22v10", device.GAL22V10) ∷ map lower_name device_names

-- the device of a name in lower case
abbrev pub device_in : List (List ℕ × DeviceName) → List ℕ → Option DeviceName
device_in [] name = None
device_in (x ∷ xs) name = if bytes_eq name x.0 then Some x.1 else device_in xs name

-- the device of a name, without regard to case
abbrev pub named_device : List ℕ → Option DeviceName
named_device name = device_in device_strings (str_to_ascii_lowercase name)
