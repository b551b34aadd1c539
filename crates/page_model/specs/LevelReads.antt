-- Which pins' levels the rows of a device read (the devices' datasheets, logic diagrams).
use Rattle.std.specs.Prelude.{ℕ, ◌==◌, Bool, not, ◌&&◌, List, length, get_or}
use Rattle.std.specs.List.{list_any, range_with_len}
use Rattle.pld_device.specs.Reads.{row_reads}
use Rattle.pld_device.specs.Registers.{stores}
use Rattle.pld_device.specs.Table.{Table, cell_at}
use Rattle.pld_device.specs.declared.carry.Carry.{Carry}
use Rattle.pld_device.specs.declared.carry.Carry.TheVariants as carry

-- the pair carries the pin's level; that of a register carries its Q instead
abbrev pub carries_level : Table → List Bool → (pin : ℕ) → Carry → Bool
carries_level t fuses pin (carry.Pin other) = other == pin
carries_level t fuses pin (carry.Cell c) = not (stores t fuses c) && ((cell_at t c).pin == pin)

-- the row may be true and reads the pair, which carries the pin's level
abbrev pub reads_level : Table → List Bool → (pin row pair : ℕ) → Bool
reads_level t fuses pin row pair = row_reads t fuses row pair && carries_level t fuses pin (get_or t.pairs pair (carry.Pin 0))

-- the row reads the pin's level
abbrev pub row_reads_level : Table → List Bool → (pin row : ℕ) → Bool
row_reads_level t fuses pin row = list_any (reads_level t fuses pin row) (range_with_len 0 (length t.pairs))

-- some row does
abbrev pub is_read : Table → List Bool → (pin : ℕ) → Bool
is_read t fuses pin = list_any (row_reads_level t fuses pin) (range_with_len 0 t.rows)
