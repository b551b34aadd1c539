-- A device in its mode: the table of a model, and the model that the fuses of a device say (the datasheets of the GAL16V8 and
-- the GAL20V8, tables of the architecture control bits).
use Rattle.std.specs.Prelude.{ℕ, ◌+◌, Bool, true, false, not, List, map}
use Rattle.pld_base.specs.Bits.{is_on}
use Rattle.pld_base.specs.declared.device_name.DeviceName.TheVariants as device
use Rattle.pld_base.specs.declared.model.Model.{Model}
use Rattle.pld_base.specs.Models.{plain_model}
use Rattle.devices.specs.Prelude.{DeviceName, IsDevice, Table, range_with_len}
use Rattle.devices.specs.DeviceLaws.{sound_in}
use Rattle.devices.specs.Devices.{table_in}
use Rattle.devices.specs.Gal16V8Tables.{ac0_fuse, first_ac1, syn_fuse}
use Rattle.devices.specs.V8Tables.{Complex, Mode, Registers, Simple, V8, control_of, v8_16, v8_20}

-- the mode that SYN and AC0 say, with a set
abbrev pub mode_by : (syn ac0 : Bool) → List Bool → Mode
mode_by true true set = Complex
mode_by true false set = Simple set
mode_by false ac0 set = Registers set

-- the table of a model
abbrev pub table_at : Model → Table
table_at model = table_in model.name (mode_by model.syn model.ac0 model.set)

-- which is that of a device
pub model_sound : (model : Model) → IsDevice (table_at model)
model_sound model = sound_in model.name (mode_by model.syn model.ac0 model.set)

-- the cell's AC1 is 0
abbrev pub is_in_set : (control : ℕ) → List Bool → (cell : ℕ) → Bool
is_in_set control fuses cell = not (is_on fuses (first_ac1 control + cell))

-- the model that the fuses of a chip with modes say, by SYN, AC0 and AC1
abbrev pub v8_model : V8 → List Bool → Model
v8_model v fuses = record {
  name = v.name;
  syn = is_on fuses (syn_fuse (control_of v));
  ac0 = is_on fuses (ac0_fuse (control_of v));
  set = map (is_in_set (control_of v) fuses) (range_with_len 0 8);
}

-- the model of a device with these fuses
abbrev pub model_by : DeviceName → List Bool → Model
model_by device.GAL16V8 fuses = v8_model v8_16 fuses
model_by device.GAL20V8 fuses = v8_model v8_20 fuses
model_by name fuses = plain_model name
