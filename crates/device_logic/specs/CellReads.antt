-- Which cells a cell reads while it settles, whether or not its value depends on them (this project's
-- rule).
use Rattle.std.specs.Prelude.{ℕ, suc, [], ◌∷◌, Bool, false, not, ◌&&◌, ◌||◌, ◌==◌, List, length}
use Rattle.device_logic.specs.Prelude.{list_any, Carry, Enable, Row, PinLow, Driven, Released, Table, cell_at, never_drives, data_rows, carries_cell, row_reads, IsOrder, stores}
use Rattle.pld_device.specs.declared.carry.Carry.TheVariants as carry

-- some pair from this number on that the row reads carries it
abbrev pub pairs_read : Table → List Bool → (row d pair : ℕ) → List Carry → Bool
pairs_read t fuses row d pair [] = false
pairs_read t fuses row d pair (x ∷ xs) =
    (row_reads t fuses row pair && carries_cell d x) || pairs_read t fuses row d (suc pair) xs

-- the row reads the cell
abbrev pub row_reads_cell : Table → List Bool → (row d : ℕ) → Bool
row_reads_cell t fuses row d = pairs_read t fuses row d 0 t.pairs

-- what enables a cell reads it; a pin that enables is no cell's
abbrev pub enable_reads : Table → List Bool → Enable → ℕ → Bool
enable_reads t fuses (Row row) d = row_reads_cell t fuses row d
enable_reads t fuses (PinLow pin) d = false
enable_reads t fuses Driven d = false
enable_reads t fuses Released d = false

-- the cell's data rows read it; those of a register are read at the clock's edge alone
abbrev pub data_reads : Table → List Bool → (c d : ℕ) → Bool
data_reads t fuses c d = not (stores t fuses c) && list_any (λ row. row_reads_cell t fuses row d) (data_rows t c)

-- cell c reads cell d, its level or its Q; a cell whose enable row is constantly 0 reads nothing
abbrev pub rest_reads : Table → List Bool → (c d : ℕ) → Bool
rest_reads t fuses c d =
    not (never_drives t fuses c) && (enable_reads t fuses (cell_at t c).enable d || data_reads t fuses c d)

-- cell c waits for cell d: it reads the level of its pin, since a register's Q doesn't change
abbrev pub cell_reads : Table → List Bool → (c d : ℕ) → Bool
cell_reads t fuses c d = not (stores t fuses d) && rest_reads t fuses c d

-- all cells, each once, none of which waits for itself or one that follows it
abbrev pub IsCellOrder : Table → List Bool → List ℕ → Type 0
IsCellOrder t fuses order = IsOrder (length t.cells) (cell_reads t fuses) order
