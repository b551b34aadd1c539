-- The tables of the GAL16V8 and GAL20V8 in simple, complex and registered mode, with any set of outputs or of registers (their
-- datasheets, logic diagrams and pinouts; which of their control fuses means what is this project's table).
use Rattle.std.specs.Prelude.{ℕ, ◌+◌, ◌*◌, Bool, true, false, None, List, [], ◌∷◌, map, replicate}
use Rattle.pld_base.specs.Bits.{is_on}
use Rattle.pld_device.specs.declared.carry.Carry.TheVariants as carry
use Rattle.devices.specs.Prelude.{range_with_len, BeforeRegister, Carry, Cell, DeviceName, GAL16V8, GAL20V8, Table}
use Rattle.devices.specs.Gal16V8Tables.{mode_fuses, switches, xors}
use Rattle.devices.specs.Pal16L8Table.{pal16l8_pairs}
use Rattle.devices.specs.Pal16RTables.{registered_pairs}
use Rattle.devices.specs.Pal20Tables.{pal20l8_pairs, pal20r_pairs}
use Rattle.devices.specs.V8Cells.{cells_down, eight_rows, simple_cell}

-- a mode; by cell, from the top pin on, simple mode has which of them drive their pins, and registered mode which are registers
pub data Mode : Type 0 where
  Simple : (driven : List Bool) → Mode
  Complex : Mode
  Registers : (stores : List Bool) → Mode

-- what distinguishes the two chips: name, pins, ground, columns, the pin of cell 0 (the others follow downwards), the pin that
-- enables registers, and what the columns carry in each mode
pub record V8 : Type 0 where
  pub name : DeviceName
  pub pins : ℕ
  pub ground_pin : ℕ
  pub columns : ℕ
  pub top : ℕ
  pub enabling : ℕ
  pub simple : List Carry
  pub complex : List Carry
  pub registered : List Carry

-- the first control fuse, past the array
abbrev pub control_of : V8 → ℕ
control_of v = v.columns * 64

-- what a set says of eight cells
abbrev pub eight : List Bool → List Bool
eight set = map (λ cell. is_on set cell) (range_with_len 0 8)

-- by cell, whether its AC1 is 0
abbrev pub set_in : Mode → List Bool
set_in (Simple driven) = eight driven
set_in Complex = replicate 8 false
set_in (Registers stores) = eight stores

-- SYN and AC0
abbrev pub syn_in : Mode → Bool
syn_in (Simple driven) = true
syn_in Complex = true
syn_in (Registers stores) = false

abbrev pub ac0_in : Mode → Bool
ac0_in (Simple driven) = false
ac0_in Complex = true
ac0_in (Registers stores) = true

-- the clock, 0 if there isn't one
abbrev pub clock_in : Mode → ℕ
clock_in (Simple driven) = 0
clock_in Complex = 0
clock_in (Registers stores) = 1

-- a cell, by its pin, its first row and whether its AC1 is 0
abbrev pub cell_in : V8 → Mode → (pin row : ℕ) → Bool → Cell
cell_in v (Simple driven) = simple_cell
cell_in v Complex = eight_rows v.enabling
cell_in v (Registers stores) = eight_rows v.enabling

-- what the columns carry
abbrev pub pairs_in : V8 → Mode → List Carry
pairs_in v (Simple driven) = v.simple
pairs_in v Complex = v.complex
pairs_in v (Registers stores) = v.registered

-- the table of a chip by its clock, SYN and AC0, what its columns carry, its cells and whether the AC1 of each is 0: XOR, 64
-- fuses of signature, AC1, PTD of each row, SYN and AC0 follow the array
abbrev pub v8_with : V8 → (clock : ℕ) → (syn ac0 : Bool) → List Carry → ((pin row : ℕ) → Bool → Cell) → List Bool → Table
v8_with v clock syn ac0 pairs cell set = record {
  name = v.name;
  pins = v.pins;
  ground_pin = v.ground_pin;
  fuses = control_of v + 146;
  short = control_of v + 146;
  columns = v.columns;
  rows = 64;
  clock = clock;
  reset = None;
  preset = None;
  flip = BeforeRegister;
  power_down = 0;
  cells = cells_down cell v.top 0 set;
  pairs = pairs;
  inverted = xors (control_of v);
  registered = [];
  row_switches = switches (control_of v);
  fixed = mode_fuses (control_of v) syn ac0 set;
}

-- its table in a mode
abbrev pub v8_in : V8 → Mode → Table
v8_in v mode = v8_with v (clock_in mode) (syn_in mode) (ac0_in mode) (pairs_in v mode) (cell_in v mode) (set_in mode)

-- what the columns of the GAL16V8 carry in simple mode, two pairs a line. Pins 16 and 15 are carried by none; in complex mode
-- pins 19 and 12 are, and in registered mode pins 1 and 11
abbrev pub simple_pairs_16 : List Carry
simple_pairs_16 =
    carry.Pin 2 ∷ carry.Pin 1
    ∷ carry.Pin 3 ∷ carry.Cell 0
    ∷ carry.Pin 4 ∷ carry.Cell 1
    ∷ carry.Pin 5 ∷ carry.Cell 2
    ∷ carry.Pin 6 ∷ carry.Cell 5
    ∷ carry.Pin 7 ∷ carry.Cell 6
    ∷ carry.Pin 8 ∷ carry.Cell 7
    ∷ carry.Pin 9 ∷ carry.Pin 11
    ∷ []

-- and those of the GAL20V8, on which pins 19 and 18 are carried by none; in complex mode pins 22 and 15 are, and in registered
-- mode pins 1 and 13
abbrev pub simple_pairs_20 : List Carry
simple_pairs_20 =
    carry.Pin 2 ∷ carry.Pin 1
    ∷ carry.Pin 3 ∷ carry.Pin 23
    ∷ carry.Pin 4 ∷ carry.Cell 0
    ∷ carry.Pin 5 ∷ carry.Cell 1
    ∷ carry.Pin 6 ∷ carry.Cell 2
    ∷ carry.Pin 7 ∷ carry.Cell 5
    ∷ carry.Pin 8 ∷ carry.Cell 6
    ∷ carry.Pin 9 ∷ carry.Cell 7
    ∷ carry.Pin 10 ∷ carry.Pin 14
    ∷ carry.Pin 11 ∷ carry.Pin 13
    ∷ []

-- the chips; in complex and registered mode their columns carry what those of the PALs do that they replace
abbrev pub v8_16 : V8
v8_16 = record {
  name = GAL16V8;
  pins = 20;
  ground_pin = 10;
  columns = 32;
  top = 19;
  enabling = 11;
  simple = simple_pairs_16;
  complex = pal16l8_pairs;
  registered = registered_pairs;
}

abbrev pub v8_20 : V8
v8_20 = record {
  name = GAL20V8;
  pins = 24;
  ground_pin = 12;
  columns = 40;
  top = 22;
  enabling = 13;
  simple = simple_pairs_20;
  complex = pal20l8_pairs;
  registered = pal20r_pairs;
}
