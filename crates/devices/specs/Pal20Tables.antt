-- The tables of the PAL20L8, PAL20R4, PAL20R6 and PAL20R8 (their datasheets, logic diagrams and pinouts).
use Rattle.std.specs.Prelude.{ℕ, Bool, true, false, List, [], ◌∷◌, None, replicate}
use Rattle.devices.specs.Prelude.{DeviceName, P20L8, P20R4, P20R6, P20R8, Carry, Always, Table}
use Rattle.pld_device.specs.declared.carry.Carry.TheVariants as carry
use Rattle.devices.specs.V8Cells.{cells_down, eight_rows}

-- what the columns carry, two pairs a line: columns 0 to 3, 4 to 7, and so on. On the PAL20L8 the cells on pins 22 and 15
-- are carried by no pair
abbrev pub pal20l8_pairs : List Carry
pal20l8_pairs =
    carry.Pin 2 ∷ carry.Pin 1
    ∷ carry.Pin 3 ∷ carry.Pin 23
    ∷ carry.Pin 4 ∷ carry.Cell 1
    ∷ carry.Pin 5 ∷ carry.Cell 2
    ∷ carry.Pin 6 ∷ carry.Cell 3
    ∷ carry.Pin 7 ∷ carry.Cell 4
    ∷ carry.Pin 8 ∷ carry.Cell 5
    ∷ carry.Pin 9 ∷ carry.Cell 6
    ∷ carry.Pin 10 ∷ carry.Pin 14
    ∷ carry.Pin 11 ∷ carry.Pin 13
    ∷ []

-- on the others pins 1 and 13, the clock and the enable, are carried by none
abbrev pub pal20r_pairs : List Carry
pal20r_pairs =
    carry.Pin 2 ∷ carry.Pin 23
    ∷ carry.Pin 3 ∷ carry.Cell 0
    ∷ carry.Pin 4 ∷ carry.Cell 1
    ∷ carry.Pin 5 ∷ carry.Cell 2
    ∷ carry.Pin 6 ∷ carry.Cell 3
    ∷ carry.Pin 7 ∷ carry.Cell 4
    ∷ carry.Pin 8 ∷ carry.Cell 5
    ∷ carry.Pin 9 ∷ carry.Cell 6
    ∷ carry.Pin 10 ∷ carry.Cell 7
    ∷ carry.Pin 11 ∷ carry.Pin 14
    ∷ []

-- a device of the family: its name, its clock (0 if there isn't one), its registers from pin 22 down to pin 15, which pin 13
-- enables, and what its columns carry
abbrev pub pal20 : DeviceName → (clock : ℕ) → (registers : List Bool) → List Carry → Table
pal20 name clock registers pairs = record {
  name = name;
  pins = 24;
  ground_pin = 12;
  fuses = 2560;
  short = 2560;
  columns = 40;
  rows = 64;
  clock = clock;
  reset = None;
  preset = None;
  flip = Always;
  power_down = 0;
  cells = cells_down (eight_rows 13) 22 0 registers;
  pairs = pairs;
  inverted = [];
  registered = [];
  row_switches = [];
  fixed = [];
}

-- eight combinational cells
abbrev pub pal20l8 : Table
pal20l8 = pal20 P20L8 0 (replicate 8 false) pal20l8_pairs

-- registers on pins 20 to 17
abbrev pub pal20r4 : Table
pal20r4 = pal20 P20R4 1 (false ∷ false ∷ true ∷ true ∷ true ∷ true ∷ false ∷ false ∷ []) pal20r_pairs

-- registers on pins 21 to 16
abbrev pub pal20r6 : Table
pal20r6 = pal20 P20R6 1 (false ∷ true ∷ true ∷ true ∷ true ∷ true ∷ true ∷ false ∷ []) pal20r_pairs

-- eight registers
abbrev pub pal20r8 : Table
pal20r8 = pal20 P20R8 1 (replicate 8 true) pal20r_pairs
