-- What a device with given fuses drives, releases and stores (the devices' datasheets, macrocell diagrams;
-- what holds for control fuses in general is this project's rule).
use Rattle.std.specs.Prelude.{ℕ, Bool, true, false, not, ◌||◌, if◌then◌else◌, Option, None, Some, List, length}
use Rattle.std.specs.List.{list_any, range_with_len}
use Rattle.pld_base.specs.Bits.{is_on, same_level}
use Rattle.pld_base.specs.Points.{Levels}
use Rattle.pld_base.specs.Logic.{Logic}
use Rattle.pld_device.specs.declared.enable.Enable.{Enable}
use Rattle.pld_device.specs.declared.enable.Enable.TheVariants.{Row, PinLow, Driven, Released}
use Rattle.pld_device.specs.declared.flip.Flip.{Flip}
use Rattle.pld_device.specs.declared.flip.Flip.TheVariants.{Always, AfterRegister, BeforeRegister}
use Rattle.pld_device.specs.Table.{Table, cell_at}
use Rattle.pld_device.specs.Registers.{stores, is_inverted}
use Rattle.pld_device.specs.Rows.{row_value}

-- the cell's data rows
abbrev pub data_rows : Table → ℕ → List ℕ
data_rows t c = range_with_len (cell_at t c).first (cell_at t c).room

-- some data row of the cell is true
abbrev pub or_value : Table → List Bool → Levels → ℕ → Bool
or_value t fuses at c = list_any (row_value t fuses at) (data_rows t c)

-- the row is true, or the pin is at 0; a cell without either always drives its pin, or never
abbrev pub enabled_by : Table → List Bool → Levels → Enable → Bool
enabled_by t fuses at (Row row) = row_value t fuses at row
enabled_by t fuses at (PinLow pin) = not (is_on at.pins pin)
enabled_by t fuses at Driven = true
enabled_by t fuses at Released = false

-- the cell drives its pin
abbrev pub is_enabled : Table → List Bool → Levels → ℕ → Bool
is_enabled t fuses at c = enabled_by t fuses at (cell_at t c).enable

-- the complement if the first is 1, else the value itself
abbrev pub complement_if : Bool → Bool → Bool
complement_if true value = not value
complement_if false value = value

-- the pin has the complement of the output
abbrev pub pin_complements : Flip → (is_register inverted : Bool) → Bool
pin_complements Always is_register inverted = true
pin_complements AfterRegister is_register inverted = inverted
pin_complements BeforeRegister is_register inverted = is_register || inverted

-- what is at the cell's output: Q if it stores, else the OR
abbrev pub output_value : Table → List Bool → Levels → ℕ → Bool
output_value t fuses at c = if stores t fuses c then is_on at.q c else or_value t fuses at c

-- the one level that the cell may drive: its output, or the complement
abbrev pub pin_level : Table → List Bool → Levels → ℕ → Bool
pin_level t fuses at c =
    complement_if (pin_complements t.flip (stores t fuses c) (is_inverted t fuses c)) (output_value t fuses at c)

-- the register takes the complement of the OR
abbrev pub data_complements : Flip → (inverted : Bool) → Bool
data_complements Always inverted = false
data_complements AfterRegister inverted = false
data_complements BeforeRegister inverted = not inverted

-- the one next Q: the OR, or its complement
abbrev pub next_q : Table → List Bool → Levels → ℕ → Bool
next_q t fuses at c = complement_if (data_complements t.flip (is_inverted t fuses c)) (or_value t fuses at c)

-- the value of a row that may not be there, then 0
abbrev pub row_if_any : Table → List Bool → Levels → Option ℕ → Bool
row_if_any t fuses at None = false
row_if_any t fuses at (Some row) = row_value t fuses at row

-- the device with these fuses, as a logic; it has no nodes, and one reset and one preset for all cells
abbrev pub device_logic : Table → List Bool → Logic
device_logic t fuses =
    record {
      cells = length t.cells;
      pin = λ c. (cell_at t c).pin;
      stores = stores t fuses;
      clock = t.clock;
      is_node = λ n. false;
      enabled = is_enabled t fuses;
      allows_level = λ at c level. same_level level (pin_level t fuses at c);
      allows_node = λ at n value. same_level value false;
      reset = λ at c. row_if_any t fuses at t.reset;
      preset = λ at c. row_if_any t fuses at t.preset;
      allows_next = λ at c q. same_level q (next_q t fuses at c);
    }
