-- Devices with modes: where their cells are, and the models of devices without modes (GAL16V8 and GAL20V8 datasheets, pinouts).
use Rattle.std.specs.Prelude.{ℕ, ◌-◌, Bool, false, true, Option, None, Some, is_some, List, [], ◌∷◌, map, replicate}
use Rattle.std.specs.List.{range_with_len}
use Rattle.pld_base.specs.declared.device_name.DeviceName.{DeviceName}
use Rattle.pld_base.specs.declared.device_name.DeviceName.TheVariants as device
use Rattle.pld_base.specs.declared.model.Model.{Model}

-- the pin of the first of the eight cells of a chip with modes
abbrev pub top_cell : DeviceName → Option ℕ
top_cell device.GAL16V8 = Some 19
top_cell device.GAL20V8 = Some 22
top_cell _ = None

abbrev pub has_modes : DeviceName → Bool
has_modes name = is_some (top_cell name)

-- the pins of all eight, from the first one on downwards
abbrev pub cell_pins : (top : ℕ) → List ℕ
cell_pins top = map (λ k. top - k) (range_with_len 0 8)

-- those of the two in the middle, which no column carries in simple mode; of the two at the ends, which none carries in complex mode
abbrev pub middle_pins : (top : ℕ) → List ℕ
middle_pins top = (top - 3) ∷ (top - 4) ∷ []

abbrev pub end_pins : (top : ℕ) → List ℕ
end_pins top = top ∷ (top - 7) ∷ []

-- the model of a device without modes; of a chip with modes it is that of complex mode
abbrev pub plain_model : DeviceName → Model
plain_model name = record { name = name; syn = true; ac0 = true; set = replicate 8 false }

-- a chip in simple mode, in which these cells drive; and in registered mode, in which these are registers
abbrev pub simple_model : DeviceName → (driven : List Bool) → Model
simple_model name driven = record { name = name; syn = true; ac0 = false; set = driven }

abbrev pub registered_model : DeviceName → (stores : List Bool) → Model
registered_model name stores = record { name = name; syn = false; ac0 = true; set = stores }
