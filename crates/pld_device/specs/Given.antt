-- What the cells of a device do not change while they settle (this project's rule).
use Rattle.std.specs.Prelude.{◌≡◌, ℕ, ◌<◌, Bool, true, false, not, ◌||◌, ◌==◌, None, Some, List, length, slice_get}
use Rattle.std.specs.List.{list_any}
use Rattle.pld_device.specs.declared.carry.Carry.{Carry}
use Rattle.pld_device.specs.declared.carry.Carry.TheVariants as carry
use Rattle.pld_device.specs.declared.enable.Enable.{Enable}
use Rattle.pld_device.specs.declared.enable.Enable.TheVariants.{Row, PinLow, Driven, Released}
use Rattle.pld_device.specs.Table.{Table, IsDataRow, cell_at}
use Rattle.pld_device.specs.Pins.{HasOwnPins, cell_pins}
use Rattle.pld_device.specs.Registers.{stores}
use Rattle.pld_device.specs.Reads.{is_never_true, row_reads}
use Rattle.pld_device.specs.RowLaws.{HasPairs}

-- a row that is never true enables nothing, and a released cell isn't enabled by anything
abbrev pub enables_never : Table → List Bool → Enable → Bool
enables_never t fuses (Row row) = is_never_true t fuses row
enables_never t fuses (PinLow pin) = false
enables_never t fuses Driven = false
enables_never t fuses Released = true

-- the cell never drives its pin
abbrev pub never_drives : Table → List Bool → ℕ → Bool
never_drives t fuses c = enables_never t fuses (cell_at t c).enable

-- no cell is on the pin
abbrev pub is_free_pin : Table → ℕ → Bool
is_free_pin t pin = not (list_any (λ other. other == pin) (cell_pins t))

-- the level of a pin without a cell, a register's feedback, or the level of a pin that its cell never drives
abbrev pub is_given : Table → List Bool → Carry → Bool
is_given t fuses (carry.Pin pin) = is_free_pin t pin
is_given t fuses (carry.Cell c) = stores t fuses c || never_drives t fuses c

-- each pair that the row reads carries such a value
abbrev pub ReadsGiven : Table → List Bool → ℕ → Type 0
ReadsGiven t fuses row =
    (pair : ℕ) (carry : Carry) → row_reads t fuses row pair ≡ true → slice_get t.pairs pair ≡ Some carry
    → is_given t fuses carry ≡ true

-- the enable reads such values alone, as a row or as a pin, or reads nothing
abbrev pub EnableReadsGiven : Table → List Bool → Enable → Type 0
EnableReadsGiven t fuses (Row row) = ReadsGiven t fuses row
EnableReadsGiven t fuses (PinLow pin) = is_free_pin t pin ≡ true
EnableReadsGiven t fuses Driven = Unit {0}
EnableReadsGiven t fuses Released = Unit {0}

-- no cell that may drive its pin waits for another: its enable and its data rows read such values alone. No
-- row resets
pub record IsOneLayer (t : Table) (fuses : List Bool) : Type 0 where
  pub pins : HasOwnPins t
  pub columns : HasPairs t
  pub no_reset : t.reset ≡ None
  pub enables : (c : ℕ) → c < length t.cells → EnableReadsGiven t fuses (cell_at t c).enable
  pub data_rows : (c row : ℕ) → c < length t.cells → never_drives t fuses c ≡ false → IsDataRow t c row
      → ReadsGiven t fuses row
