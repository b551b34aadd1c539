-- The table of the GAL18V10 (GAL18V10 datasheet, logic diagram, macrocell diagram and pinout).
use Rattle.std.specs.Prelude.{ℕ, ◌+◌, ◌*◌, List, [], ◌∷◌, Some, map}
use Rattle.devices.specs.Prelude.{range_with_len, GAL18V10, Carry, Cell, AfterRegister, Table}
use Rattle.pld_device.specs.declared.carry.Carry.TheVariants as carry
use Rattle.devices.specs.Gal22V10Table.{either_cell, intact}

-- the cells, each with its pin, its enable row and its room
abbrev pub gal18v10_cells : List Cell
gal18v10_cells =
    either_cell 19 1 8
    ∷ either_cell 18 10 8
    ∷ either_cell 17 19 8
    ∷ either_cell 16 28 8
    ∷ either_cell 15 37 10
    ∷ either_cell 14 48 10
    ∷ either_cell 13 59 8
    ∷ either_cell 12 68 8
    ∷ either_cell 11 77 8
    ∷ either_cell 9 86 8
    ∷ []

-- what the columns carry, two pairs a line. Pin 1, the clock, is in the array too
abbrev pub gal18v10_pairs : List Carry
gal18v10_pairs =
    carry.Pin 1 ∷ carry.Cell 0
    ∷ carry.Pin 2 ∷ carry.Cell 1
    ∷ carry.Pin 3 ∷ carry.Cell 2
    ∷ carry.Pin 4 ∷ carry.Cell 3
    ∷ carry.Pin 5 ∷ carry.Cell 4
    ∷ carry.Pin 6 ∷ carry.Cell 5
    ∷ carry.Pin 7 ∷ carry.Cell 6
    ∷ carry.Pin 8 ∷ carry.Cell 7
    ∷ carry.Cell 8 ∷ carry.Cell 9
    ∷ []

-- the whole table: row 0 resets, row 95 presets; S0 of a cell is its polarity, S1 its kind, and the signature follows
abbrev pub gal18v10 : Table
gal18v10 = record {
  name = GAL18V10;
  pins = 20;
  ground_pin = 10;
  fuses = 3540;
  short = 3540;
  columns = 36;
  rows = 96;
  clock = 1;
  reset = Some 0;
  preset = Some 95;
  flip = AfterRegister;
  power_down = 0;
  cells = gal18v10_cells;
  pairs = gal18v10_pairs;
  inverted = map (λ cell. intact (3456 + 2 * cell)) (range_with_len 0 10);
  registered = map (λ cell. intact (3457 + 2 * cell)) (range_with_len 0 10);
  row_switches = [];
  fixed = [];
}
