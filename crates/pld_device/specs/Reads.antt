-- Which pairs a row reads, whether or not its value depends on them (this project's rule).
use Rattle.std.specs.Prelude.{ℕ, Bool, false, not, ◌&&◌, ◌||◌, List, [], ◌∷◌}
use Rattle.pld_base.specs.Bits.{is_on}
use Rattle.pld_device.specs.Table.{Table}
use Rattle.pld_device.specs.Rows.{row_fuses, is_switched_on}

-- both columns of some pair are connected
abbrev pub has_whole_pair : List Bool → Bool
has_whole_pair [] = false
has_whole_pair (lower ∷ []) = false
has_whole_pair (lower ∷ higher ∷ fuses) = (not lower && not higher) || has_whole_pair fuses

-- for each pair, whether one of its columns is connected
abbrev pub connected_pairs : List Bool → List Bool
connected_pairs [] = []
connected_pairs (lower ∷ []) = not lower ∷ []
connected_pairs (lower ∷ higher ∷ fuses) = (not lower || not higher) ∷ connected_pairs fuses

-- the row is false at every point: it is switched off, or some pair is connected with both columns
abbrev pub is_never_true : Table → List Bool → ℕ → Bool
is_never_true t fuses row = not (is_switched_on t fuses row) || has_whole_pair (row_fuses t fuses row)

-- the row reads the pair: one of the pair's columns is connected, and the row isn't false at every point
abbrev pub row_reads : Table → List Bool → ℕ → ℕ → Bool
row_reads t fuses row pair = not (is_never_true t fuses row) && is_on (connected_pairs (row_fuses t fuses row)) pair
