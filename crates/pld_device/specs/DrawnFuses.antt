-- Fuses drawn row by row, for examples (this project's rule).
use Rattle.std.specs.Prelude.{ℕ, ◌==◌, not, if◌then◌else◌, Bool, false, List, [], ◌∷◌, map, replicate}
use Rattle.std.specs.List.{flat_map, list_any, range_with_len}
use Rattle.pld_device.specs.Table.{Table}

-- a row that is drawn: its number, and the columns that are connected
abbrev pub Drawn : Type 0
Drawn = ℕ × List ℕ

-- the row whose connected columns these are: their fuses are 0, all others 1
abbrev pub connected_row : (columns : ℕ) → List ℕ → List Bool
connected_row columns connected = map (λ column. not (list_any (λ other. other == column) connected)) (range_with_len 0 columns)

-- the fuses of a row: as it is drawn, else all intact
abbrev pub drawn_row : Table → List Drawn → ℕ → List Bool
drawn_row t [] row = replicate t.columns false
drawn_row t ((drawn, connected) ∷ rest) row = if drawn == row then connected_row t.columns connected else drawn_row t rest row

-- the fuses of the array
abbrev pub drawn_array : Table → List Drawn → List Bool
drawn_array t drawn = flat_map (drawn_row t drawn) (range_with_len 0 t.rows)
