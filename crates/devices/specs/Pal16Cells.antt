-- The cells of the PAL16 devices, and what all their tables share (the devices' datasheets, logic diagrams).
use Rattle.std.specs.Prelude.{ℕ, ◌+◌, List, [], None}
use Rattle.devices.specs.Prelude.{DeviceName, Carry, Cell, Row, PinLow, Always, Combinational, Registered, Table}

-- a cell on a pin: its first row enables it, the seven rows after that are its data
abbrev pub combinational_cell : (pin row : ℕ) → Cell
combinational_cell pin row = record { pin = pin; enable = Row row; first = row + 1; room = 7; kinds = Combinational }

-- a register on a pin: pin 11 enables it, and all eight rows are its data
abbrev pub registered_cell : (pin row : ℕ) → Cell
registered_cell pin row = record { pin = pin; enable = PinLow 11; first = row; room = 8; kinds = Registered }

-- a device of the family: its name, its clock (0 if there isn't one), its cells and what its columns carry. It
-- always inverts, and has no reset, no preset and no control fuses
abbrev pub pal16 : DeviceName → (clock : ℕ) → List Cell → List Carry → Table
pal16 name clock cells pairs = record {
  name = name;
  pins = 20;
  ground_pin = 10;
  fuses = 2048;
  short = 2048;
  columns = 32;
  rows = 64;
  clock = clock;
  reset = None;
  preset = None;
  flip = Always;
  power_down = 0;
  cells = cells;
  pairs = pairs;
  inverted = [];
  registered = [];
  row_switches = [];
  fixed = [];
}
