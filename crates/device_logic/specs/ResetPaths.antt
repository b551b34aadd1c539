-- Chains of reads from a device's reset row to a register (this project's rule).
use Rattle.std.specs.Prelude.{ℕ, Bool, false, not, ◌&&◌, Option, None, Some, List, length}
use Rattle.device_logic.specs.Prelude.{stores, Table, IsPath, HasNoPath}
use Rattle.device_logic.specs.CellReads.{row_reads_cell, rest_reads}

-- the row, if there is one, reads the cell
abbrev pub row_reads_if_any : Table → List Bool → Option ℕ → ℕ → Bool
row_reads_if_any t fuses None d = false
row_reads_if_any t fuses (Some row) d = row_reads_cell t fuses row d

-- the reset row reads the cell
abbrev pub reset_reads : Table → List Bool → ℕ → Bool
reset_reads t fuses d = row_reads_if_any t fuses t.reset d

-- cell c, which is no register, reads cell d
abbrev pub plain_reads : Table → List Bool → (c d : ℕ) → Bool
plain_reads t fuses c d = not (stores t fuses c) && rest_reads t fuses c d

-- the reset row reads the first of these cells, each but the last is combinational and reads the next one, and
-- the last is a register
abbrev pub IsResetPath : Table → List Bool → List ℕ → Type 0
IsResetPath t fuses path = IsPath (length t.cells) (plain_reads t fuses) (reset_reads t fuses) (stores t fuses) path

-- there are no such cells
abbrev pub HasNoResetPath : Table → List Bool → Type 0
HasNoResetPath t fuses = HasNoPath (length t.cells) (plain_reads t fuses) (reset_reads t fuses) (stores t fuses)
