-- Cells of eight rows, one below the other (the logic diagrams of the PAL20 devices, the GAL16V8 and the GAL20V8).
use Rattle.std.specs.Prelude.{ℕ, ◌+◌, ◌-◌, Bool, List, [], ◌∷◌, if◌then◌else◌}
use Rattle.devices.specs.Prelude.{Cell, Combinational, Driven, PinLow, Registered, Released, Row}

-- a cell of simple mode: all eight rows are its data, and it always drives its pin, or never
abbrev pub simple_cell : (pin row : ℕ) → (driven : Bool) → Cell
simple_cell pin row driven =
    record { pin = pin; enable = if driven then Driven else Released; first = row; room = 8; kinds = Combinational }

-- a cell of the others: a register, which the enabling pin enables and whose data are all eight rows, or combinational: its first
-- row enables it, and the others are its data
abbrev pub eight_rows : (enabling pin row : ℕ) → (register : Bool) → Cell
eight_rows enabling pin row register = record {
  pin = pin;
  enable = if register then PinLow enabling else Row row;
  first = if register then row else row + 1;
  room = if register then 8 else 7;
  kinds = if register then Registered else Combinational;
}

-- cells from this pin downwards and this row on, by a truth value each
abbrev pub cells_down : ((pin row : ℕ) → Bool → Cell) → (pin row : ℕ) → List Bool → List Cell
cells_down cell pin row [] = []
cells_down cell pin row (on ∷ set) = cell pin row on ∷ cells_down cell (pin - 1) (row + 8) set
