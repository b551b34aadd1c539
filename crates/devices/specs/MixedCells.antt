-- A small design on the GAL16V8 in each mode, and what its cells show (this project's example).
use Rattle.std.specs.Prelude.{ℕ, ◌==◌, Bool, true, false, List, [], ◌∷◌, ◌++◌, map, replicate, take, drop}
use Rattle.devices.specs.Prelude.{list_any, range_with_len, Levels, FuseBit, Drawn, drawn_array, ShownRow, shown, point_with, Table}

-- so many levels, of which those at these places are 1
abbrev pub levels_at : (count : ℕ) → List ℕ → List Bool
levels_at count places = map (λ k. list_any (λ place. place == k) places) (range_with_len 0 count)

-- the control fuses in their order: XOR, 1 for these cells, the signature, AC1, PTD, 1 for these rows, SYN and AC0
abbrev pub controls : Table → (direct on : List ℕ) → List Bool
controls t direct on =
    let fixed = map (λ (bit : FuseBit). bit.level) t.fixed in
    levels_at 8 direct ++ (replicate 64 false ++ (take 8 fixed ++ (levels_at 64 on ++ drop 8 fixed)))

-- rows 0 and 8 are of opened fuses, rows 1 and 9 read pin 2, rows 16 and 24 the lower column of pin 17, and row 17 is of opened
-- fuses too, but switched off
abbrev pub mixed_rows : List Drawn
mixed_rows = (0, []) ∷ (1, 0 ∷ []) ∷ (8, []) ∷ (9, 0 ∷ []) ∷ (16, 10 ∷ []) ∷ (17, []) ∷ (24, 10 ∷ []) ∷ []

-- the fuses; cells 0 and 2 aren't inverted
abbrev pub mixed : Table → List Bool
mixed t = drawn_array t mixed_rows ++ controls t (0 ∷ 2 ∷ []) (0 ∷ 1 ∷ 8 ∷ 9 ∷ 16 ∷ 24 ∷ [])

-- every pin is low, every Q 0
abbrev pub all_low : Levels
all_low = point_with [] []

-- pins 2, 11 and 19 are high, and the Q of cell 2 is 1
abbrev pub others_high : Levels
others_high = point_with (2 ∷ 11 ∷ 19 ∷ []) (2 ∷ [])

-- the point, the cell, and whether it is a register, is enabled and has a true row; its pin, its feedback and its next Q. In
-- complex mode row 16 enables cell 2, while pin 17 is high
abbrev pub c_shows : List ShownRow
c_shows =
    (all_low, 0, shown false true false false false true)
    ∷ (all_low, 1, shown false true false true false false)
    ∷ (all_low, 2, shown false false false false false true)
    ∷ (others_high, 0, shown false true true true true false)
    ∷ (others_high, 1, shown false true true false false true)
    ∷ []

-- a register's pin is the complement of its Q in either form; its next Q is the OR if it is inverted, else the complement
abbrev pub r4_shows : List ShownRow
r4_shows =
    (all_low, 0, shown false true false false false true)
    ∷ (all_low, 1, shown false true false true false false)
    ∷ (all_low, 2, shown true true true true true false)
    ∷ (all_low, 3, shown true true true true true true)
    ∷ (others_high, 0, shown false true true true true false)
    ∷ (others_high, 1, shown false true true false false true)
    ∷ (others_high, 2, shown true false false false false true)
    ∷ (others_high, 3, shown true false false true true false)
    ∷ []

-- cell 1 is a register on the second: the row of opened fuses is one of its data
abbrev pub r6_shows : List ShownRow
r6_shows =
    (all_low, 0, shown false true false false false true)
    ∷ (all_low, 1, shown true true true true true true)
    ∷ (others_high, 1, shown true false true true true true)
    ∷ []

-- and so is cell 0 on the third
abbrev pub r8_shows : List ShownRow
r8_shows =
    (all_low, 0, shown true true true true true false)
    ∷ (others_high, 0, shown true false true true true false)
    ∷ (others_high, 2, shown true false false false false true)
    ∷ []
