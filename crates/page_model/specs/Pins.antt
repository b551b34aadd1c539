-- What a page says of the pins (the devices' datasheets, logic diagrams; what is said is this project's rule).
use Rattle.std.specs.Prelude.{ℕ, ◌-◌, ◌==◌, Bool, true, false, ◌&&◌, ◌||◌, if◌then◌else◌, Option, None, Some, List, [], length, slice_get}
use Rattle.std.specs.List.{list_any, range_with_len}
use Rattle.abel_tree.specs.Entries.{Entry}
use Rattle.pld_device.specs.LawTests.Cells.{is_enable_pin}
use Rattle.pld_device.specs.Pins.{cell_on}
use Rattle.pld_device.specs.Table.{Table, cell_at}
use Rattle.page_model.specs.Cells.{drives_of}
use Rattle.page_model.specs.Idle.{is_clocked}
use Rattle.page_model.specs.LevelReads.{is_read}
use Rattle.page_model.specs.PinNames.{label_of}
use Rattle.page_model.specs.declared.drives.Drives.{Drives}
use Rattle.page_model.specs.declared.drives.Drives.TheVariants.{Never, Always, ByRow, WhileLow}
use Rattle.page_model.specs.declared.pin_facts.PinFacts.{PinFacts}
use Rattle.page_model.specs.declared.pin_facts.PinUse.{PinUse}
use Rattle.page_model.specs.declared.pin_facts.PinUse.TheVariants.{Ground, Supply, Input, Output, Both, Unused}

-- the pin clocks a register that may change
abbrev pub clocks_some : Table → List Bool → (pin : ℕ) → Bool
clocks_some t fuses pin = (pin == t.clock) && list_any (is_clocked t fuses) (range_with_len 0 (length t.cells))

-- the cell drives its pin while this one is low
abbrev pub is_enabled_low : Table → (pin cell : ℕ) → Bool
is_enabled_low t pin c = is_enable_pin pin (cell_at t c).enable

-- some cell does
abbrev pub enables_some : Table → (pin : ℕ) → Bool
enables_some t pin = list_any (is_enabled_low t pin) (range_with_len 0 (length t.cells))

-- when the cell that there may be drives its pin
abbrev pub drives_on : Table → List Bool → Option ℕ → Drives
drives_on t fuses None = Never
drives_on t fuses (Some c) = drives_of t fuses c

-- what a pin for signals is used as, by when it is driven, if rows read it, and if it clocks or enables
abbrev pub signal_use : Drives → (read serves : Bool) → PinUse
signal_use Never read serves = if read || serves then Input else Unused
signal_use Always read serves = Output
signal_use (ByRow row) read serves = if read then Both else Output
signal_use (WhileLow pin) read serves = if read then Both else Output

-- what a pin is used as
abbrev pub pin_use : Table → List Bool → (pin : ℕ) → PinUse
pin_use t fuses pin =
    if pin == t.ground_pin then Ground
    else (if pin == t.pins then Supply
    else signal_use (drives_on t fuses (cell_on t pin)) (is_read t fuses pin) (clocks_some t fuses pin || enables_some t pin))

-- a pin, whose first name is one of these
abbrev pub pin_facts : Table → List Bool → List Entry → (pin : ℕ) → PinFacts
pin_facts t fuses es pin = record {
  number = pin;
  label = label_of es pin;
  used_as = pin_use t fuses pin;
  is_read = is_read t fuses pin;
  is_clock = clocks_some t fuses pin;
  is_enable = enables_some t pin;
  cell = cell_on t pin;
}

-- the label of the pin that there may be
abbrev pub label_in : Option PinFacts → List ℕ
label_in None = []
label_in (Some facts) = facts.label

-- the label of a pin, of pins from pin 1
abbrev pub label_at : List PinFacts → (pin : ℕ) → List ℕ
label_at pins pin = label_in (slice_get pins (pin - 1))
