-- A fuse file of a model is read by the sizes of its name, and its fuses say the model's table.
use Rattle.std.proofs.Common.{◌≡◌, ℕ, Bool, List, Ok, Err, refl, sym, ap, ◌∙◌}
use Rattle.pld_base.specs.declared.device_name.DeviceName.TheVariants as device
use Rattle.pld_base.specs.declared.model.Model.{Model}
use Rattle.pld_base.specs.Models.{plain_model}
use Rattle.pld_device.specs.FixedFuses.{HasFixedLevels}
use Rattle.jedec_file.specs.FuseFile.{FuseFile, file_of}
use Rattle.jedec_file.proofs.SameSizes.{SameSizes, file_same}
use Rattle.jedec_reader.specs.DeviceFiles.{IsFileOf}
use Rattle.devices.specs.Devices.{table_in, table_of}
use Rattle.devices.specs.Models.{mode_by, model_by, table_at}
use Rattle.devices.specs.Prelude.{DeviceName}
use Rattle.devices.specs.V8Tables.{Mode, v8_16, v8_20}
use Rattle.file_models.specs.FileModels.{file_table, model_in, model_of}
use Rattle.file_models.proofs.FixedModels.{same_mode}

-- all modes have the same sizes
same_sizes : (name : DeviceName) (mode : Mode) → SameSizes (table_of name) (table_in name mode)
same_sizes device.GAL16V8 mode = record { fuses = refl; short = refl; pins = refl }
same_sizes device.GAL20V8 mode = record { fuses = refl; short = refl; pins = refl }
same_sizes name mode = record { fuses = refl; short = refl; pins = refl }

same_table : (name : DeviceName) (syn ac0 : Bool) (set fuses : List Bool) → HasFixedLevels (table_in name (mode_by syn ac0 set)) fuses
    → table_at (model_by name fuses) ≡ table_in name (mode_by syn ac0 set)
same_table device.GAL16V8 syn ac0 set fuses has = same_mode v8_16 fuses syn ac0 set has
same_table device.GAL20V8 syn ac0 set fuses has = same_mode v8_20 fuses syn ac0 set has
same_table name syn ac0 set fuses has = refl

pub file_table_is : (model : Model) (bytes : List ℕ) (file : FuseFile) → IsFileOf (table_at model) bytes file → file_table model.name bytes ≡ table_at model
file_table_is model bytes file is =
    let mode = mode_by model.syn model.ac0 model.set in
    ap (λ read. table_at (model_in model.name read)) (file_same (table_of model.name) (table_at model) (same_sizes model.name mode) bytes ∙ is.read)
    ∙ same_table model.name model.syn model.ac0 model.set file.fuses is.mode
