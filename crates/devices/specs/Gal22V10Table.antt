-- The table of the GAL22V10 (GAL22V10 datasheet, logic diagram, macrocell diagram and pinout).
use Rattle.std.specs.Prelude.{ℕ, ◌+◌, false, Option, Some, List, [], ◌∷◌}
use Rattle.devices.specs.Prelude.{GAL22V10, Carry, Cell, Row, AfterRegister, FuseBit, Either, Table}
use Rattle.pld_device.specs.declared.carry.Carry.TheVariants as carry

-- a cell on a pin: a row enables it, and after that one are its data rows, as many as it has room
abbrev pub either_cell : (pin enable room : ℕ) → Cell
either_cell pin enable room = record { pin = pin; enable = Row enable; first = enable + 1; room = room; kinds = Either }

-- the cells, each with its pin, its enable row and its room
abbrev pub gal22v10_cells : List Cell
gal22v10_cells =
    either_cell 23 1 8
    ∷ either_cell 22 10 10
    ∷ either_cell 21 21 12
    ∷ either_cell 20 34 14
    ∷ either_cell 19 49 16
    ∷ either_cell 18 66 16
    ∷ either_cell 17 83 14
    ∷ either_cell 16 98 12
    ∷ either_cell 15 111 10
    ∷ either_cell 14 122 8
    ∷ []

-- what the columns carry, two pairs a line: columns 0 to 3, 4 to 7, and so on. Pin 1, the clock, is in the array too
abbrev pub gal22v10_pairs : List Carry
gal22v10_pairs =
    carry.Pin 1 ∷ carry.Cell 0
    ∷ carry.Pin 2 ∷ carry.Cell 1
    ∷ carry.Pin 3 ∷ carry.Cell 2
    ∷ carry.Pin 4 ∷ carry.Cell 3
    ∷ carry.Pin 5 ∷ carry.Cell 4
    ∷ carry.Pin 6 ∷ carry.Cell 5
    ∷ carry.Pin 7 ∷ carry.Cell 6
    ∷ carry.Pin 8 ∷ carry.Cell 7
    ∷ carry.Pin 9 ∷ carry.Cell 8
    ∷ carry.Pin 10 ∷ carry.Cell 9
    ∷ carry.Pin 11 ∷ carry.Pin 13
    ∷ []

-- a control fuse that has its meaning while it is intact
abbrev pub intact : ℕ → Option FuseBit
intact fuse = Some (record { fuse = fuse; level = false })

-- S0 of each cell, from pin 23 on: inverted while it is 0
abbrev pub gal22v10_inverted : List (Option FuseBit)
gal22v10_inverted =
    intact 5808
    ∷ intact 5810
    ∷ intact 5812
    ∷ intact 5814
    ∷ intact 5816
    ∷ intact 5818
    ∷ intact 5820
    ∷ intact 5822
    ∷ intact 5824
    ∷ intact 5826
    ∷ []

-- S1 of each cell, from pin 23 on: registered while it is 0
abbrev pub gal22v10_registered : List (Option FuseBit)
gal22v10_registered =
    intact 5809
    ∷ intact 5811
    ∷ intact 5813
    ∷ intact 5815
    ∷ intact 5817
    ∷ intact 5819
    ∷ intact 5821
    ∷ intact 5823
    ∷ intact 5825
    ∷ intact 5827
    ∷ []

-- the whole table: row 0 resets and row 131 presets; fuses 5828 to 5891 are the signature, which a short file leaves out
abbrev pub gal22v10 : Table
gal22v10 = record {
  name = GAL22V10;
  pins = 24;
  ground_pin = 12;
  fuses = 5892;
  short = 5828;
  columns = 44;
  rows = 132;
  clock = 1;
  reset = Some 0;
  preset = Some 131;
  flip = AfterRegister;
  power_down = 0;
  cells = gal22v10_cells;
  pairs = gal22v10_pairs;
  inverted = gal22v10_inverted;
  registered = gal22v10_registered;
  row_switches = [];
  fixed = [];
}
