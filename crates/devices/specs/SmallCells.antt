-- Small designs on the GAL22V10, and what its cells show (this project's examples).
use Rattle.std.specs.Prelude.{ℕ, ◌==◌, Bool, true, false, List, [], ◌∷◌, ◌++◌, map, replicate, codes}
use Rattle.devices.specs.Prelude.{list_any, Levels, Drawn, drawn_array, ShownRow, shown, point_with}
use Rattle.pld_device.specs.Macrocells.{row_if_any}
use Rattle.devices.specs.Gal22V10Table.{gal22v10}

-- the control fuses S0 and S1 of the cells from pin 23 on, written as levels, and the signature
abbrev pub controls : List ℕ → List Bool
controls text = map (λ level. list_any (λ one. one == level) (codes "1")) text ++ replicate 64 false

-- a counter of three bits on pins 23, 22 and 21, each of which follows its Q; the columns of a cell carry the complement
-- of Q first
abbrev pub counter : List Bool
counter =
    drawn_array gal22v10
    ((1, []) ∷ (2, 2 ∷ [])
    ∷ (10, []) ∷ (11, 2 ∷ 7 ∷ []) ∷ (12, 3 ∷ 6 ∷ [])
    ∷ (21, []) ∷ (22, 2 ∷ 11 ∷ []) ∷ (23, 3 ∷ 7 ∷ 10 ∷ []) ∷ (24, 6 ∷ 11 ∷ []) ∷ [])
    ++ controls (codes "10101001010101010101")

-- a register on pin 23 that pin 2 gives, inverted, reset by pin 3 and preset by pin 4; the product of pins 2 and 3 on
-- pin 22, as it is, and its complement on pin 21
abbrev pub mixed : List Bool
mixed =
    drawn_array gal22v10
    ((0, 8 ∷ []) ∷ (131, 12 ∷ [])
    ∷ (1, []) ∷ (2, 4 ∷ [])
    ∷ (10, []) ∷ (11, 4 ∷ 8 ∷ [])
    ∷ (21, []) ∷ (22, 4 ∷ 8 ∷ []) ∷ [])
    ++ controls (codes "00110101010101010101")

-- every pin is low, every Q 0
abbrev pub all_low : Levels
all_low = point_with [] []

-- the counter is at 3, and at 7; pin 23 is held low, which its feedback doesn't see
abbrev pub at_3 : Levels
at_3 = point_with (22 ∷ []) (0 ∷ 1 ∷ [])

abbrev pub at_7 : Levels
at_7 = point_with [] (0 ∷ 1 ∷ 2 ∷ [])

-- the point, the cell, and whether it is a register, is enabled and has a true row; its pin, its feedback and its next Q
abbrev pub counter_shows : List ShownRow
counter_shows =
    (all_low, 0, shown true true true false true true)
    ∷ (all_low, 1, shown true true false false true false)
    ∷ (all_low, 2, shown true true false false true false)
    ∷ (at_3, 0, shown true true false true false false)
    ∷ (at_3, 1, shown true true false true false false)
    ∷ (at_3, 2, shown true true true false true true)
    ∷ (at_7, 0, shown true true false true false false)
    ∷ (at_7, 1, shown true true false true false false)
    ∷ (at_7, 2, shown true true false true false false)
    ∷ (all_low, 3, shown false false false true false false)
    ∷ []

-- pins 2, 3 and 22 are high
abbrev pub pins_2_3_22 : Levels
pins_2_3_22 = point_with (2 ∷ 3 ∷ 22 ∷ []) []

-- pins 2 and 4 are high, and the register holds 1
abbrev pub pins_2_4 : Levels
pins_2_4 = point_with (2 ∷ 4 ∷ []) (0 ∷ [])

-- the same columns; the register's feedback is the complement of Q if its pin is that too
abbrev pub mixed_shows : List ShownRow
mixed_shows =
    (all_low, 0, shown true true false true true false)
    ∷ (all_low, 1, shown false true false false false false)
    ∷ (all_low, 2, shown false true false true false false)
    ∷ (pins_2_3_22, 0, shown true true true true true true)
    ∷ (pins_2_3_22, 1, shown false true true true true true)
    ∷ (pins_2_3_22, 2, shown false true true false false true)
    ∷ (pins_2_4, 0, shown true true true false false true)
    ∷ []

-- the reset row is true, and the preset row
abbrev pub is_reset : List Bool → Levels → Bool
is_reset fuses at = row_if_any gal22v10 fuses at gal22v10.reset

abbrev pub is_preset : List Bool → Levels → Bool
is_preset fuses at = row_if_any gal22v10 fuses at gal22v10.preset
