-- The tables of the PAL16P8 and the AMPAL18P8, whose cells have a polarity fuse each (their datasheets, logic diagrams and
-- pinouts).
use Rattle.std.specs.Prelude.{ℕ, Option, None, List, [], ◌∷◌, ◌++◌, map}
use Rattle.devices.specs.Prelude.{range_with_len, P16P8, P18P8, Carry, Cell, AfterRegister, FuseBit, Table}
use Rattle.pld_device.specs.declared.carry.Carry.TheVariants as carry
use Rattle.devices.specs.Gal22V10Table.{intact}
use Rattle.devices.specs.Pal16L8Table.{pal16l8_cells, pal16l8_pairs}
use Rattle.devices.specs.Pal20L10Table.{enabled_cell}

-- a fuse a cell, from this one on: the cell is inverted while it is 0
abbrev pub polarities : (fuse cells : ℕ) → List (Option FuseBit)
polarities fuse cells = map intact (range_with_len fuse cells)

-- the PAL16L8 with polarity fuses behind the array
abbrev pub pal16p8 : Table
pal16p8 = record {
  name = P16P8;
  pins = 20;
  ground_pin = 10;
  fuses = 2056;
  short = 2056;
  columns = 32;
  rows = 64;
  clock = 0;
  reset = None;
  preset = None;
  flip = AfterRegister;
  power_down = 0;
  cells = pal16l8_cells;
  pairs = pal16l8_pairs;
  inverted = polarities 2048 8;
  registered = [];
  row_switches = [];
  fixed = [];
}

-- the cells of the AMPAL18P8, each with its pin, the first of its nine rows and its room
abbrev pub pal18p8_cells : List Cell
pal18p8_cells =
    enabled_cell 19 0 8
    ∷ enabled_cell 18 9 8
    ∷ enabled_cell 17 18 8
    ∷ enabled_cell 16 27 8
    ∷ enabled_cell 15 36 8
    ∷ enabled_cell 14 45 8
    ∷ enabled_cell 13 54 8
    ∷ enabled_cell 12 63 8
    ∷ []

-- what its columns carry: what those of the PAL16L8 do, and then the two cells that these leave out
abbrev pub pal18p8_pairs : List Carry
pal18p8_pairs = pal16l8_pairs ++ carry.Cell 0 ∷ carry.Cell 7 ∷ []

abbrev pub pal18p8 : Table
pal18p8 = record {
  name = P18P8;
  pins = 20;
  ground_pin = 10;
  fuses = 2600;
  short = 2600;
  columns = 36;
  rows = 72;
  clock = 0;
  reset = None;
  preset = None;
  flip = AfterRegister;
  power_down = 0;
  cells = pal18p8_cells;
  pairs = pal18p8_pairs;
  inverted = polarities 2592 8;
  registered = [];
  row_switches = [];
  fixed = [];
}
