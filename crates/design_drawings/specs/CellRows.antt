-- Which rows of the array belong to a cell (the devices' datasheets: logic diagrams).
use Rattle.std.specs.Prelude.{◌≡◌, ◌⊎◌, ℕ, ◌<◌, Option, None, Some, length}
use Rattle.pld_device.specs.Table.{IsDataRow, Table, cell_at}
use Rattle.pld_device.specs.declared.enable.Enable.TheVariants.{Row}

-- the row enables the cell, or is one of its data rows
abbrev pub IsRowOf : Table → (c row : ℕ) → Type 0
IsRowOf t c row = ((cell_at t c).enable ≡ Row row) ⊎ IsDataRow t c row

-- a cell of the device that has the row; none if no cell of it has
abbrev pub IsCellOf : Table → (row : ℕ) → Option ℕ → Type 0
IsCellOf t row (Some c) = (c < length t.cells) × IsRowOf t c row
IsCellOf t row None = (c : ℕ) → c < length t.cells → IsRowOf t c row → ⊥
