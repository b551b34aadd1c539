-- The tables of the PAL16R4, PAL16R6 and PAL16R8 (their datasheets, logic diagrams and pinouts).
use Rattle.std.specs.Prelude.{List, [], ◌∷◌}
use Rattle.devices.specs.Prelude.{P16R4, P16R6, P16R8, Carry, Cell, Table}
use Rattle.pld_device.specs.declared.carry.Carry.TheVariants as carry
use Rattle.devices.specs.Pal16Cells.{combinational_cell, registered_cell, pal16}

-- what the columns carry, two pairs a line: columns 0 to 3, 4 to 7, and so on. Each cell is carried by a pair;
-- pins 1 and 11, the clock and the enable, are carried by none
abbrev pub registered_pairs : List Carry
registered_pairs =
    carry.Pin 2 ∷ carry.Cell 0
    ∷ carry.Pin 3 ∷ carry.Cell 1
    ∷ carry.Pin 4 ∷ carry.Cell 2
    ∷ carry.Pin 5 ∷ carry.Cell 3
    ∷ carry.Pin 6 ∷ carry.Cell 4
    ∷ carry.Pin 7 ∷ carry.Cell 5
    ∷ carry.Pin 8 ∷ carry.Cell 6
    ∷ carry.Pin 9 ∷ carry.Cell 7
    ∷ []

-- the cells of the PAL16R4, each with its pin and the first of its eight rows:
-- combinational on pins 19, 18, 13 and 12, registers on pins 17 to 14
abbrev pub pal16r4_cells : List Cell
pal16r4_cells =
    combinational_cell 19 0
    ∷ combinational_cell 18 8
    ∷ registered_cell 17 16
    ∷ registered_cell 16 24
    ∷ registered_cell 15 32
    ∷ registered_cell 14 40
    ∷ combinational_cell 13 48
    ∷ combinational_cell 12 56
    ∷ []

-- the whole table: pin 1 is the clock
abbrev pub pal16r4 : Table
pal16r4 = pal16 P16R4 1 pal16r4_cells registered_pairs

-- the cells of the PAL16R6, each with its pin and the first of its eight rows:
-- combinational on pins 19 and 12, registers on pins 18 to 13
abbrev pub pal16r6_cells : List Cell
pal16r6_cells =
    combinational_cell 19 0
    ∷ registered_cell 18 8
    ∷ registered_cell 17 16
    ∷ registered_cell 16 24
    ∷ registered_cell 15 32
    ∷ registered_cell 14 40
    ∷ registered_cell 13 48
    ∷ combinational_cell 12 56
    ∷ []

-- the whole table: pin 1 is the clock
abbrev pub pal16r6 : Table
pal16r6 = pal16 P16R6 1 pal16r6_cells registered_pairs

-- the cells of the PAL16R8, each with its pin and the first of its eight rows:
-- registers on all eight pins
abbrev pub pal16r8_cells : List Cell
pal16r8_cells =
    registered_cell 19 0
    ∷ registered_cell 18 8
    ∷ registered_cell 17 16
    ∷ registered_cell 16 24
    ∷ registered_cell 15 32
    ∷ registered_cell 14 40
    ∷ registered_cell 13 48
    ∷ registered_cell 12 56
    ∷ []

-- the whole table: pin 1 is the clock
abbrev pub pal16r8 : Table
pal16r8 = pal16 P16R8 1 pal16r8_cells registered_pairs
