-- That no row of the array has two uses (this project's rule).
use Rattle.std.specs.Prelude.{◌≡◌, ◌≢◌, ℕ, ◌<◌, Some, length}
use Rattle.pld_device.specs.declared.enable.Enable.TheVariants.{Row}
use Rattle.pld_device.specs.Table.{Table, IsDataRow, cell_at}

-- the row enables the cell
abbrev pub IsEnableRow : Table → (c row : ℕ) → Type 0
IsEnableRow t c row = (c < length t.cells) × ((cell_at t c).enable ≡ Row row)

-- a row is of one cell alone, as data or as its enable, and resets or presets nothing then
pub record HasRowsApart (t : Table) : Type 0 where
  pub data_rows : (c d row : ℕ) → IsDataRow t c row → IsDataRow t d row → c ≡ d
  pub enable_rows : (c d row : ℕ) → IsEnableRow t c row → IsEnableRow t d row → c ≡ d
  pub data_enables_none : (c d row : ℕ) → IsDataRow t c row → IsEnableRow t d row → ⊥
  pub data_resets_none : (c row : ℕ) → IsDataRow t c row → t.reset ≢ Some row
  pub data_presets_none : (c row : ℕ) → IsDataRow t c row → t.preset ≢ Some row
  pub enable_resets_none : (c row : ℕ) → IsEnableRow t c row → t.reset ≢ Some row
  pub enable_presets_none : (c row : ℕ) → IsEnableRow t c row → t.preset ≢ Some row
  pub reset_presets_none : (row : ℕ) → t.reset ≡ Some row → t.preset ≢ Some row
