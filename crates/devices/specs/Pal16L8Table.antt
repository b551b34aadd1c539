-- The table of the PAL16L8 (PAL16L8 datasheet, logic diagram and pinout).
use Rattle.std.specs.Prelude.{List, [], ◌∷◌}
use Rattle.devices.specs.Prelude.{P16L8, Carry, Cell, Table}
use Rattle.pld_device.specs.declared.carry.Carry.TheVariants as carry
pub use Rattle.devices.specs.Pal16Cells.{combinational_cell}
use Rattle.devices.specs.Pal16Cells.{pal16}

-- the cells, each with its pin and the first of its eight rows
abbrev pub pal16l8_cells : List Cell
pal16l8_cells =
    combinational_cell 19 0
    ∷ combinational_cell 18 8
    ∷ combinational_cell 17 16
    ∷ combinational_cell 16 24
    ∷ combinational_cell 15 32
    ∷ combinational_cell 14 40
    ∷ combinational_cell 13 48
    ∷ combinational_cell 12 56
    ∷ []

-- what the columns carry, two pairs a line: columns 0 to 3, 4 to 7, and so on. The cells on pins 19 and 12
-- are carried by no pair
abbrev pub pal16l8_pairs : List Carry
pal16l8_pairs =
    carry.Pin 2 ∷ carry.Pin 1
    ∷ carry.Pin 3 ∷ carry.Cell 1
    ∷ carry.Pin 4 ∷ carry.Cell 2
    ∷ carry.Pin 5 ∷ carry.Cell 3
    ∷ carry.Pin 6 ∷ carry.Cell 4
    ∷ carry.Pin 7 ∷ carry.Cell 5
    ∷ carry.Pin 8 ∷ carry.Cell 6
    ∷ carry.Pin 9 ∷ carry.Pin 11
    ∷ []

-- the whole table: no clock
abbrev pub pal16l8 : Table
pal16l8 = pal16 P16L8 0 pal16l8_cells pal16l8_pairs
