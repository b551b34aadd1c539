-- A device's table: everything that distinguishes one device from another (this project's rule,
-- over the logic diagrams and control fuses of the devices' datasheets).
use Rattle.std.specs.Prelude.{ℕ, ◌+◌, ◌<◌, ◌≤◌, Option, List, None, get_or, length, map}
use Rattle.std.specs.List.{range_with_len}
use Rattle.pld_base.specs.declared.device_name.DeviceName.{DeviceName}
use Rattle.pld_device.specs.declared.carry.Carry.{Carry}
use Rattle.pld_device.specs.declared.cell.Cell.{Cell}
use Rattle.pld_device.specs.declared.chip.Chip.{Chip}
use Rattle.pld_device.specs.declared.enable.Enable.TheVariants.{Row}
use Rattle.pld_device.specs.declared.flip.Flip.{Flip}
use Rattle.pld_device.specs.declared.fuse_bit.FuseBit.{FuseBit}
use Rattle.pld_device.specs.declared.kinds.Kinds.TheVariants.{Combinational}

-- pins count from 1; fuses, columns, rows, pairs and cells from 0
pub record Table : Type 0 where
  -- the name in fuse files and reports
  pub name : DeviceName
  -- how many pins there are, and which one is ground
  pub pins : ℕ
  pub ground_pin : ℕ
  -- how many fuses there are, and the smaller number that a fuse file may name
  pub fuses : ℕ
  pub short : ℕ
  -- the array: row r has its fuses from columns * r on
  pub columns : ℕ
  pub rows : ℕ
  -- the clock's pin, 0 if there isn't one
  pub clock : ℕ
  -- the row that resets every register, and the one that presets it
  pub reset : Option ℕ
  pub preset : Option ℕ
  -- if the device complements
  pub flip : Flip
  -- the pin that may power the chip down, 0 if there isn't one: no source may read it
  pub power_down : ℕ
  -- the cells, and what each pair of columns carries
  pub cells : List Cell
  pub pairs : List Carry
  -- by cell, the fuse that says inverted and the one that says registered; none past the list's end
  pub inverted : List (Option FuseBit)
  pub registered : List (Option FuseBit)
  -- by row, the fuse that switches the row on; none past the list's end
  pub row_switches : List ℕ
  -- the fuses whose level is the same in every design
  pub fixed : List FuseBit

-- its numbers, as a device's type gives them
abbrev pub chip_of : Table → Chip
chip_of t = record {
  name = t.name;
  pins = t.pins;
  ground_pin = t.ground_pin;
  fuses = t.fuses;
  short = t.short;
  columns = t.columns;
  rows = t.rows;
  cells = length t.cells;
  clock = t.clock;
  reset = t.reset;
  preset = t.preset;
  flip = t.flip;
  power_down = t.power_down;
}

-- what represents a cell past the last one
abbrev pub no_cell : Cell
no_cell = record { pin = 0; enable = Row 0; first = 0; room = 0; kinds = Combinational }

-- the cell of a number
abbrev pub cell_at : Table → ℕ → Cell
cell_at t c = get_or t.cells c no_cell

-- the fuse and level that say that a cell is inverted, and that it is registered
abbrev pub inverted_at : Table → ℕ → Option FuseBit
inverted_at t c = get_or t.inverted c None

abbrev pub registered_at : Table → ℕ → Option FuseBit
registered_at t c = get_or t.registered c None

-- the same of every cell, in order
abbrev pub inverted_by_cell : Table → List (Option FuseBit)
inverted_by_cell t = map (inverted_at t) (range_with_len 0 (length t.cells))

abbrev pub registered_by_cell : Table → List (Option FuseBit)
registered_by_cell t = map (registered_at t) (range_with_len 0 (length t.cells))

-- the row is one of the cell's data rows
abbrev pub IsDataRow : Table → (c row : ℕ) → Type 0
IsDataRow t c row = ((cell_at t c).first ≤ row) × (row < (cell_at t c).first + (cell_at t c).room)
