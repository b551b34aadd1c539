-- The laws of a device's table. Code for all devices relies on nothing else (this project's rule).
use Rattle.std.specs.Prelude.{◌≡◌, ◌≢◌, ◌↔◌, ℕ, suc, ◌+◌, ◌*◌, ◌<◌, ◌≤◌, ◌==◌, nat_lt, nat_le, Bool, true, false, ◌&&◌, Option, IsSome, Some, None, List, [], ◌∷◌, ◌++◌, length, slice_get, EachIndex, All, AllPairs}
use Rattle.pld_device.specs.declared.carry.Carry.{Carry}
use Rattle.pld_device.specs.declared.carry.Carry.TheVariants as carry
use Rattle.pld_device.specs.declared.cell.Cell.{Cell}
use Rattle.pld_device.specs.declared.enable.Enable.{Enable}
use Rattle.pld_device.specs.declared.enable.Enable.TheVariants.{Row, PinLow, Driven, Released}
use Rattle.pld_device.specs.declared.flip.Flip.TheVariants.{Always}
use Rattle.pld_device.specs.declared.fuse_bit.FuseBit.{FuseBit}
use Rattle.pld_device.specs.declared.kinds.Kinds.TheVariants.{Combinational, Registered, Either}
use Rattle.pld_device.specs.Table.{Table, cell_at, inverted_at, registered_at}
use Rattle.pld_device.specs.ControlFuses.{control_fuses}

-- what a row of the array is for: the enable or the data of a cell, or the reset or preset of all registers
pub data Use : Type 0 where
  Enables : (cell : ℕ) → Use
  IsData : (cell : ℕ) → Use
  Resets : Use
  Presets : Use

-- a use that there is if the test passes
abbrev pub use_if : Bool → Use → List Use
use_if true purpose = purpose ∷ []
use_if false purpose = []

-- the row enables
abbrev pub is_enable_row : Enable → ℕ → Bool
is_enable_row (Row enable) row = enable == row
is_enable_row (PinLow pin) row = false
is_enable_row Driven row = false
is_enable_row Released row = false

-- the row is one of the cell's data rows
abbrev pub is_data_row : Cell → ℕ → Bool
is_data_row cell row = nat_le cell.first row && nat_lt row (cell.first + cell.room)

-- the row is the one that there may be
abbrev pub is_row : Option ℕ → ℕ → Bool
is_row None row = false
is_row (Some other) row = other == row

-- what cells use the row for; the first of them has this number
abbrev pub cell_uses : ℕ → List Cell → ℕ → List Use
cell_uses c [] row = []
cell_uses c (cell ∷ cells) row =
    use_if (is_enable_row cell.enable row) (Enables c)
    ++ (use_if (is_data_row cell row) (IsData c) ++ cell_uses (suc c) cells row)

-- every use of the row
abbrev pub uses_of : Table → ℕ → List Use
uses_of t row =
    cell_uses 0 t.cells row ++ (use_if (is_row t.reset row) Resets ++ use_if (is_row t.preset row) Presets)

-- the numbers of a table and their limits; two columns a pair
pub record HasSizes (t : Table) : Type 0 where
  pub columns_even : t.columns ≡ 2 * length t.pairs
  pub columns_low : 2 ≤ t.columns
  pub columns_high : t.columns ≤ 44
  pub pins_low : 10 ≤ t.pins
  pub pins_high : t.pins ≤ 24
  pub ground_high : t.ground_pin ≤ t.pins
  pub clock_high : t.clock ≤ t.pins
  pub few_cells : length t.cells ≤ 10
  pub array_fits : t.columns * t.rows ≤ t.fuses
  pub short_high : t.short ≤ t.fuses
  pub fuses_high : t.fuses ≤ 9999

-- the pin is one of the device, and neither ground nor the supply, which is the last one
pub record IsSignalPin (t : Table) (pin : ℕ) : Type 0 where
  pub low : 1 ≤ pin
  pub high : pin < t.pins
  pub not_ground : pin ≢ t.ground_pin

-- a cell: its pin is no clock and enables no cell, its rows are in the array, and there is a clock if it may be a
-- register. A pin that enables it is one for signals, and then it always is a register
pub record IsCell (t : Table) (cell : Cell) : Type 0 where
  pub pin : IsSignalPin t cell.pin
  pub not_clock : cell.pin ≢ t.clock
  pub enables_none : All (λ (other : Cell). other.enable ≢ PinLow cell.pin) t.cells
  pub room_low : 1 ≤ cell.room
  pub room_high : cell.room ≤ 16
  pub data_below : cell.first + cell.room ≤ t.rows
  pub enable_below : (row : ℕ) → cell.enable ≡ Row row → row < t.rows
  pub enable_pin : (pin : ℕ) → cell.enable ≡ PinLow pin → IsSignalPin t pin
  pub pin_registers : (pin : ℕ) → cell.enable ≡ PinLow pin → cell.kinds ≡ Registered
  pub clocked : cell.kinds ≢ Combinational → t.clock ≢ 0

-- what a pair carries: a pin without a cell, or a cell of the device
abbrev pub IsPair : Table → Carry → Type 0
IsPair t (carry.Pin pin) = IsSignalPin t pin × All (λ (cell : Cell). cell.pin ≢ pin) t.cells
IsPair t (carry.Cell c) = c < length t.cells

-- the fuse is past the array and one of the device
pub record IsControlFuse (t : Table) (fuse : ℕ) : Type 0 where
  pub past : t.columns * t.rows ≤ fuse
  pub below : fuse < t.fuses

-- what a control fuse is for: a cell's polarity, its kind, a row's switch, or a level that never changes
pub data Control : Type 0 where
  Inverts : (cell : ℕ) → Control
  Registers : (cell : ℕ) → Control
  Switches : (row : ℕ) → Control
  IsFixed : (index : ℕ) → Control

-- the fuse of a control fuse that there may be
abbrev pub fuse_if_any : Option FuseBit → Option ℕ
fuse_if_any None = None
fuse_if_any (Some bit) = Some bit.fuse

-- the control fuse that is there for this
abbrev pub fuse_for : Table → Control → Option ℕ
fuse_for t (Inverts c) = fuse_if_any (inverted_at t c)
fuse_for t (Registers c) = fuse_if_any (registered_at t c)
fuse_for t (Switches row) = slice_get t.row_switches row
fuse_for t (IsFixed index) = fuse_if_any (slice_get t.fixed index)

-- the table is that of a device
pub record IsDevice (t : Table) : Type 0 where
  pub sizes : HasSizes t
  -- each row of the array has exactly one use, and every row with a use is in the array
  pub used_once : (row : ℕ) → row < t.rows → length (uses_of t row) ≡ 1
  pub unused_past : (row : ℕ) → t.rows ≤ row → uses_of t row ≡ []
  -- each cell has a pin of its own
  pub cells : All (IsCell t) t.cells
  pub pins_apart : AllPairs (λ (a b : Cell). a.pin ≢ b.pin) t.cells
  -- no two pairs carry the same
  pub pairs : All (IsPair t) t.pairs
  pub pairs_apart : AllPairs (λ (a b : Carry). a ≢ b) t.pairs
  -- each control fuse is past the array, and no fuse is two of them
  pub control : (what : Control) (fuse : ℕ) → fuse_for t what ≡ Some fuse → IsControlFuse t fuse
  pub control_listed : All (IsControlFuse t) (control_fuses t)
  pub control_apart : (a b : Control) (fuse : ℕ) → fuse_for t a ≡ Some fuse → fuse_for t b ≡ Some fuse → a ≡ b
  -- no control fuse is that of a cell or a row past the last one, at most 64 switch a row, and at most 16 are fixed
  pub inverted_end : length t.inverted ≤ length t.cells
  pub registered_end : length t.registered ≤ length t.cells
  pub switches_end : length t.row_switches ≤ t.rows
  pub few_switches : length t.row_switches ≤ 64
  pub few_fixed : length t.fixed ≤ 16
  -- a fuse says inverted unless the device always complements, and one says registered if a cell may be either
  pub inverted : EachIndex t.cells (λ c. IsSome (inverted_at t c) ↔ (t.flip ≢ Always))
  pub registered : EachIndex t.cells (λ c. IsSome (registered_at t c) ↔ ((cell_at t c).kinds ≡ Either))
