-- The laws of the devices' tables by their names: one computation over all names, and over all sets of each mode.
use Rattle.std.proofs.Common.{◌≡◌, true, refl}
use Rattle.pld_base.proofs.EachDevice.{each_device, is_same, same_from_test}
use Rattle.pld_base.specs.declared.device_name.DeviceName.TheVariants as device
use Rattle.devices.specs.Prelude.{DeviceName, IsDevice, passes_all, device_by_computation}
use Rattle.devices.specs.Devices.{table_in, table_of}
use Rattle.devices.specs.V8Laws.{gal16v8_sound, gal20v8_sound}
use Rattle.devices.specs.V8Tables.{Complex, Mode}

each_passes : (name : DeviceName) → passes_all (table_of name) ≡ true
each_passes = each_device (λ name. passes_all (table_of name)) refl

-- a device without modes
plain : (name : DeviceName) (mode : Mode) → (table_in name mode ≡ table_of name) → IsDevice (table_in name mode)
plain name mode same = rw same (device_by_computation (table_of name) (each_passes name))

-- each table is that of a device
pub sound_in : (name : DeviceName) (mode : Mode) → IsDevice (table_in name mode)
sound_in device.GAL16V8 mode = gal16v8_sound mode
sound_in device.GAL20V8 mode = gal20v8_sound mode
sound_in name mode = plain name mode refl

pub table_sound : (name : DeviceName) → IsDevice (table_of name)
table_sound name = sound_in name Complex

-- and it has the device's name
pub table_has_name : (name : DeviceName) → (table_of name).name ≡ name
table_has_name name = same_from_test (table_of name).name name (each_device (λ other. is_same (table_of other).name other) refl name)
