-- A small design on the PAL16 devices with registers, and what its cells show (this project's example).
use Rattle.std.specs.Prelude.{ℕ, Bool, true, false, List, [], ◌∷◌}
use Rattle.devices.specs.Prelude.{Levels, Drawn, drawn_array, ShownRow, shown, point_with, Table}

-- a row of opened fuses and one of pin 2; a counter of two bits in the rows of pins 17 and 16: !Q0, then !Q0 & !Q1 and
-- Q0 & Q1
abbrev pub counter_rows : List Drawn
counter_rows = (0, []) ∷ (1, 0 ∷ []) ∷ (16, 10 ∷ []) ∷ (24, 10 ∷ 14 ∷ []) ∷ (25, 11 ∷ 15 ∷ []) ∷ []

-- its fuses
abbrev pub counter : Table → List Bool
counter t = drawn_array t counter_rows

-- every pin is low, every Q 0
abbrev pub all_low : Levels
all_low = point_with [] []

-- pin 11 is high, and both bits are 1
abbrev pub released_at_3 : Levels
released_at_3 = point_with (11 ∷ []) (2 ∷ 3 ∷ [])

-- pins 2 and 19 are high
abbrev pub pins_2_and_19 : Levels
pins_2_and_19 = point_with (2 ∷ 19 ∷ []) []

-- the point, the cell, and whether it is a register, is enabled and has a true row; its pin, its feedback and its next Q.
-- Pin 11 releases the registers' pins, and not their feedback; a combinational cell feeds back its pin
abbrev pub r4_shows : List ShownRow
r4_shows =
    (all_low, 0, shown false true false true false false)
    ∷ (all_low, 1, shown false false false true false false)
    ∷ (all_low, 2, shown true true true true true true)
    ∷ (all_low, 3, shown true true true true true true)
    ∷ (released_at_3, 2, shown true false false false false false)
    ∷ (released_at_3, 3, shown true false true false false true)
    ∷ (pins_2_and_19, 0, shown false true true false true true)
    ∷ []

-- pin 18 has a register on the PAL16R6, pin 19 still none
abbrev pub r6_shows : List ShownRow
r6_shows =
    (all_low, 0, shown false true false true false false)
    ∷ (all_low, 1, shown true true false true true false)
    ∷ (released_at_3, 3, shown true false true false false true)
    ∷ []

-- pin 19 has a register on the PAL16R8: the row of opened fuses is one of its data
abbrev pub r8_shows : List ShownRow
r8_shows =
    (all_low, 0, shown true true true true true true)
    ∷ (released_at_3, 0, shown true false true true true true)
    ∷ (released_at_3, 3, shown true false true false false true)
    ∷ []
