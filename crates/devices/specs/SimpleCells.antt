-- A small design on the GAL16V8 in simple mode, and what its cells show (this project's example).
use Rattle.std.specs.Prelude.{Bool, true, false, List, [], ◌∷◌, ◌++◌}
use Rattle.devices.specs.Prelude.{drawn_array, Levels, ShownRow, shown, point_with, Table}
use Rattle.devices.specs.MixedCells.{all_low, controls}
use Rattle.devices.specs.V8Tables.{Simple, v8_16, v8_in}

-- cells 0 and 2 drive, and the others never do
abbrev pub two_driven : Table
two_driven = v8_in v8_16 (Simple (true ∷ false ∷ true ∷ []))

-- row 0, the first one of cell 0, reads pin 2, and row 1 pin 18; cell 0 isn't inverted
abbrev pub simple_design : List Bool
simple_design = drawn_array two_driven ((0, 0 ∷ []) ∷ (1, 10 ∷ []) ∷ []) ++ controls two_driven (0 ∷ []) (0 ∷ 1 ∷ [])

-- pin 2 is high, or pin 18
abbrev pub pin_2 : Levels
pin_2 = point_with (2 ∷ []) []

abbrev pub pin_18 : Levels
pin_18 = point_with (18 ∷ []) []

-- the point, the cell, and whether it is a register, is enabled and has a true row; its pin, its feedback and its next Q: a cell that
-- drives does so whatever its rows are, one that doesn't has the level of its pin fed back
abbrev pub simple_shows : List ShownRow
simple_shows =
    (all_low, 0, shown false true false false false true)
    ∷ (all_low, 1, shown false false false true false false)
    ∷ (all_low, 2, shown false true false true false false)
    ∷ (pin_2, 0, shown false true true true false false)
    ∷ (pin_18, 0, shown false true true true false false)
    ∷ (pin_18, 1, shown false false false true true false)
    ∷ []
