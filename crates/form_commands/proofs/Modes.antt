-- A device is read alike in each of its modes.
use Rattle.std.proofs.Common.{◌≡◌, ℕ, Bool, List, refl, sym, subst}
use Rattle.devices.specs.Devices.{table_in, table_of}
use Rattle.devices.specs.Models.{mode_by, model_by, table_at}
use Rattle.devices.specs.V8Tables.{Mode}
use Rattle.form_commands.specs.Dumps.{table_with}
use Rattle.form_commands.specs.Prelude.{Table, file_of}
use Rattle.jedec_file.proofs.SameSizes.{SameSizes, file_same}
use Rattle.pld_base.specs.declared.device_name.DeviceName.{DeviceName}
use Rattle.pld_base.specs.declared.device_name.DeviceName.TheVariants as device

same_sizes : (name : DeviceName) (mode : Mode) → SameSizes (table_of name) (table_in name mode)
same_sizes device.GAL16V8 mode = record { fuses = refl; short = refl; pins = refl }
same_sizes device.GAL20V8 mode = record { fuses = refl; short = refl; pins = refl }
same_sizes name mode = record { fuses = refl; short = refl; pins = refl }

model_name : (name : DeviceName) (fuses : List Bool) → (model_by name fuses).name ≡ name
model_name device.GAL16V8 fuses = refl
model_name device.GAL20V8 fuses = refl
model_name name fuses = refl

-- the mode that fuses say has as many fuses and pins as the device
pub sizes_with : (name : DeviceName) (fuses : List Bool) → SameSizes (table_of name) (table_at (model_by name fuses))
sizes_with name fuses =
    let model = model_by name fuses in
    subst (λ (n : DeviceName). SameSizes (table_of n) (table_at model)) (model_name name fuses)
    (same_sizes model.name (mode_by model.syn model.ac0 model.set))

pub with_read : (t : Table) → table_of t.name ≡ t → (fuses : List Bool) (bytes : List ℕ) → file_of (table_with t fuses) bytes ≡ file_of t bytes
with_read t own fuses bytes =
    sym (file_same t (table_with t fuses) (subst (λ (u : Table). SameSizes u (table_with t fuses)) own (sizes_with t.name fuses)) bytes)
