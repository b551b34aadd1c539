-- The model of a fuse file of a device: by its fuses, which are read alike in all modes (this project's rule).
use Rattle.std.specs.Prelude.{ℕ, List, Ok, Err}
use Rattle.devices.specs.Devices.{table_of}
use Rattle.devices.specs.Models.{model_by, table_at}
use Rattle.jedec_file.specs.FuseFile.{FuseFile, file_of}
use Rattle.jedec_file.specs.Refusals.{Read}
use Rattle.pld_base.specs.Models.{plain_model}
use Rattle.pld_base.specs.declared.device_name.DeviceName.{DeviceName}
use Rattle.pld_base.specs.declared.model.Model.{Model}
use Rattle.pld_device.specs.Table.{Table}

-- the model that a file's fuses say; without a file that of the name alone
abbrev pub model_in : DeviceName → Read FuseFile → Model
model_in name (Ok file) = model_by name file.fuses
model_in name (Err fault) = plain_model name

-- the model of bytes
abbrev pub model_of : DeviceName → (bytes : List ℕ) → Model
model_of name bytes = model_in name (file_of (table_of name) bytes)

-- their table
abbrev pub file_table : DeviceName → (bytes : List ℕ) → Table
file_table name bytes = table_at (model_of name bytes)
