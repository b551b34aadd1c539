-- The rows of a device's controls, by what a module says of them (two-level minimisation: prime rows; that a control has one
-- row is the devices').
use Rattle.std.specs.Prelude.{◌≡◌, ℕ, ◌<◌, Bool, true, false, List, length, Some}
use Rattle.netlist_laws.specs.Prelude.{is_on, Levels, exchanged_at, Row, is_inverted, row_fuses, row_value, Table, cell_at, Extension, ModuleTree, inverting, shared_control, design_of}
use Rattle.abel_tree.specs.declared.words.Extension.TheVariants as extension
use Rattle.abel_meaning.specs.AtPoints.{given_at, truth_at}
use Rattle.netlist_laws.specs.RowCovers.{is_used, value_without}
use Rattle.netlist_laws.specs.ModuleCovers.{IsValuedPoint, chosen_logic}

-- the row has the value, no literal of it can be left out, and it is all 0 if the value is constantly 0
pub record IsRowOf (t : Table) (m : ModuleTree) (fuses : List Bool) (value : Levels → Bool) (row : ℕ) : Type 0 where
  pub same : (at : Levels) → IsValuedPoint t m fuses at → row_value t fuses at row ≡ value at
  pub prime : is_used t fuses row ≡ true → (column : ℕ) → column < t.columns → is_on (row_fuses t fuses row) column ≡ false
      → ((at : Levels) → IsValuedPoint t m fuses at → value_without t fuses at row column ≡ true → value at ≡ true) → ⊥
  pub zero : ((at : Levels) → IsValuedPoint t m fuses at → value at ≡ false) → is_used t fuses row ≡ false

-- the reset, or the preset, that all registers of the module share
abbrev pub shared_at : Table → ModuleTree → Extension → Levels → Bool
shared_at t m e at = shared_control (truth_at (design_of t m).context at) (design_of t m).context (given_at (design_of t m) at) e

-- what the module sees of a point under the choice that the fuses show
abbrev pub seen_at : Table → ModuleTree → (fuses : List Bool) → Levels → Levels
seen_at t m fuses at = exchanged_at (inverting (is_inverted t fuses) (design_of t m).context) at

-- each enable row, and the reset and the preset row, is that of the module's own control
pub record HasControlRows (t : Table) (m : ModuleTree) (fuses : List Bool) : Type 0 where
  pub enables : (c row : ℕ) → c < length t.cells → (cell_at t c).enable ≡ Row row → IsRowOf t m fuses (λ at. (chosen_logic t m fuses).enabled at c) row
  pub reset : (row : ℕ) → t.reset ≡ Some row → IsRowOf t m fuses (λ at. shared_at t m extension.Ar (seen_at t m fuses at)) row
  pub preset : (row : ℕ) → t.preset ≡ Some row → IsRowOf t m fuses (λ at. shared_at t m extension.Sp (seen_at t m fuses at)) row
