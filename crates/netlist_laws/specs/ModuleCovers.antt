-- The rows of a device's cells as covers of what a module says of them, without a netlist (two-level minimisation: prime
-- and irredundant covers; over which points they are so is this project's rule).
use Rattle.std.specs.Prelude.{◌≡◌, ℕ, ◌<◌, Bool, true, false, not, if◌then◌else◌, List}
use Rattle.netlist_laws.specs.Prelude.{list_any, is_on, Levels, Logic, IsValued, complement_if, data_complements, pin_complements, data_rows, stores, is_inverted, row_fuses, row_value, Table, has, ModuleTree, source_logic_under, source_values_under}
use Rattle.netlist_laws.specs.RowCovers.{is_used, value_without, any_other}

-- what the module allows under the choice of its free registers that the fuses show
abbrev pub chosen_logic : Table → ModuleTree → (fuses : List Bool) → Logic
chosen_logic t m fuses = source_logic_under t m (is_inverted t fuses)

-- a point at which the module's nodes have their values with any as 0, under this choice
abbrev pub IsValuedPoint : Table → ModuleTree → (fuses : List Bool) → Levels → Type 0
IsValuedPoint t m fuses at = IsValued (chosen_logic t m fuses) (source_values_under t m (is_inverted t fuses)) at

module _ (t : Table) (m : ModuleTree) (fuses : List Bool) (c : ℕ) where
  -- a value that the OR of the cell's rows may have: as the next Q that the module allows it, or as the level of its pin
  abbrev pub or_allows : Levels → Bool → Bool
  or_allows at v =
      if stores t fuses c
      then (chosen_logic t m fuses).allows_next at c (complement_if (data_complements t.flip (is_inverted t fuses c)) v)
      else (chosen_logic t m fuses).allows_level at c (complement_if (pin_complements t.flip false (is_inverted t fuses c)) v)

  -- the OR must be 1 there
  abbrev pub is_needed : Levels → Bool
  is_needed at = not (or_allows at false)

  -- no literal can be left out of the row: it would be true if the OR may not be 1
  abbrev pub NoLiteralIsLeft : ℕ → Type 0
  NoLiteralIsLeft row =
      (column : ℕ) → column < t.columns → is_on (row_fuses t fuses row) column ≡ false
      → ((at : Levels) → IsValuedPoint t m fuses at → value_without t fuses at row column ≡ true → or_allows at true ≡ true) → ⊥

  -- the row can't be left out: the others would miss a point that is needed
  abbrev pub IsNotLeft : ℕ → Type 0
  IsNotLeft row =
      ((at : Levels) → IsValuedPoint t m fuses at → is_needed at ≡ true → any_other t fuses at (data_rows t c) row ≡ true) → ⊥

  -- the cell's rows are true wherever the OR must be 1 and only if it may be; and of those in use no literal can be left
  -- out, and none of them as a whole
  pub record HasPrimeRows : Type 0 where
    pub at_needed : (at : Levels) → IsValuedPoint t m fuses at → is_needed at ≡ true → list_any (row_value t fuses at) (data_rows t c) ≡ true
    pub at_allowed : (at : Levels) → IsValuedPoint t m fuses at → list_any (row_value t fuses at) (data_rows t c) ≡ true → or_allows at true ≡ true
    pub prime : (row : ℕ) → has (data_rows t c) row ≡ true → is_used t fuses row ≡ true → NoLiteralIsLeft row
    pub irredundant : (row : ℕ) → has (data_rows t c) row ≡ true → is_used t fuses row ≡ true → IsNotLeft row
