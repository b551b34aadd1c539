-- The table of the PAL20L10 (PAL20L10 datasheet, logic diagram and pinout).
use Rattle.std.specs.Prelude.{ℕ, ◌+◌, List, [], ◌∷◌, None}
use Rattle.devices.specs.Prelude.{P20L10, Carry, Cell, Row, Always, Combinational, Table}
use Rattle.pld_device.specs.declared.carry.Carry.TheVariants as carry

-- a cell on a pin: its first row enables it, the rows after that are its data, as many as it has room
abbrev pub enabled_cell : (pin row room : ℕ) → Cell
enabled_cell pin row room = record { pin = pin; enable = Row row; first = row + 1; room = room; kinds = Combinational }

-- the cells, each with its pin, the first of its four rows and its room
abbrev pub pal20l10_cells : List Cell
pal20l10_cells =
    enabled_cell 23 0 3
    ∷ enabled_cell 22 4 3
    ∷ enabled_cell 21 8 3
    ∷ enabled_cell 20 12 3
    ∷ enabled_cell 19 16 3
    ∷ enabled_cell 18 20 3
    ∷ enabled_cell 17 24 3
    ∷ enabled_cell 16 28 3
    ∷ enabled_cell 15 32 3
    ∷ enabled_cell 14 36 3
    ∷ []

-- what the columns carry, two pairs a line. The cells on pins 23 and 14 are carried by no pair
abbrev pub pal20l10_pairs : List Carry
pal20l10_pairs =
    carry.Pin 2 ∷ carry.Pin 1
    ∷ carry.Pin 3 ∷ carry.Cell 1
    ∷ carry.Pin 4 ∷ carry.Cell 2
    ∷ carry.Pin 5 ∷ carry.Cell 3
    ∷ carry.Pin 6 ∷ carry.Cell 4
    ∷ carry.Pin 7 ∷ carry.Cell 5
    ∷ carry.Pin 8 ∷ carry.Cell 6
    ∷ carry.Pin 9 ∷ carry.Cell 7
    ∷ carry.Pin 10 ∷ carry.Cell 8
    ∷ carry.Pin 11 ∷ carry.Pin 13
    ∷ []

-- the whole table: no clock, and no control fuses
abbrev pub pal20l10 : Table
pal20l10 = record {
  name = P20L10;
  pins = 24;
  ground_pin = 12;
  fuses = 1600;
  short = 1600;
  columns = 40;
  rows = 40;
  clock = 0;
  reset = None;
  preset = None;
  flip = Always;
  power_down = 0;
  cells = pal20l10_cells;
  pairs = pal20l10_pairs;
  inverted = [];
  registered = [];
  row_switches = [];
  fixed = [];
}
