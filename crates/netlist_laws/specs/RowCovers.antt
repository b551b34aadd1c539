-- Rows of a device's array as covers of a function, without a cube (a cover's rows that are prime and irredundant: the
-- literature of two-level minimisation; over which points they are so is this project's rule).
use Rattle.std.specs.Prelude.{◌≡◌, ℕ, ◌<◌, Bool, true, false, not, ◌&&◌, ◌==◌, List, [], ◌∷◌, set}
use Rattle.netlist_laws.specs.Prelude.{list_any, is_on, Levels, columns_of, pair_values, row_fuses, is_switched_on, row_is_true, row_value, Table, IsValued, IsValuedOf, has, Formula, formula_value, PlainNetlist, netlist_logic, netlist_values}

-- a point whose nodes have their values with any as 0
abbrev pub IsValuedFor : Table → PlainNetlist → Levels → Type 0
IsValuedFor t net at = IsValued (netlist_logic t net) (netlist_values net) at

-- the first point with its nodes so valued
abbrev pub IsValuedOfFor : Table → PlainNetlist → (at valued : Levels) → Type 0
IsValuedOfFor t net at valued = IsValuedOf (netlist_logic t net) (netlist_values net) at valued

-- the row isn't all 0
abbrev pub is_used : Table → List Bool → ℕ → Bool
is_used t fuses row = list_any (λ fuse. fuse) (row_fuses t fuses row)

-- the row's value with one column's literal left out
abbrev pub value_without : Table → List Bool → Levels → (row column : ℕ) → Bool
value_without t fuses at row column =
    is_switched_on t fuses row
    && row_is_true (set (row_fuses t fuses row) column true) (columns_of (pair_values t fuses at))

-- no literal can be left out of the row: it would be true at a point that isn't allowed
abbrev pub IsPrimeRow : Table → PlainNetlist → List Bool → (allowed : Levels → Bool) → ℕ → Type 0
IsPrimeRow t net fuses allowed row =
    (column : ℕ) → column < t.columns → is_on (row_fuses t fuses row) column ≡ false
    → ((at : Levels) → IsValuedFor t net at → value_without t fuses at row column ≡ true → allowed at ≡ true) → ⊥

-- some row of the list, except for this one, is true
abbrev pub any_other : Table → List Bool → Levels → List ℕ → ℕ → Bool
any_other t fuses at rows row = list_any (λ other. not (other == row) && row_value t fuses at other) rows

-- at points whose nodes are valued, the rows are true at every needed point and only at allowed points; and of those
-- that aren't all 0 no literal can be left out, and none of them as a whole
pub record IsPrimeCover (t : Table) (net : PlainNetlist) (fuses : List Bool) (rows : List ℕ) (needed allowed : Levels → Bool) : Type 0 where
  pub at_needed : (at : Levels) → IsValuedFor t net at → needed at ≡ true
      → list_any (row_value t fuses at) rows ≡ true
  pub at_allowed : (at : Levels) → IsValuedFor t net at → list_any (row_value t fuses at) rows ≡ true
      → allowed at ≡ true
  pub no_literal : (row : ℕ) → has rows row ≡ true → is_used t fuses row ≡ true
      → IsPrimeRow t net fuses allowed row
  pub no_row : (row : ℕ) → has rows row ≡ true → is_used t fuses row ≡ true
      → ((at : Levels) → IsValuedFor t net at → needed at ≡ true → any_other t fuses at rows row ≡ true) → ⊥

-- the one row has the formula's value
abbrev pub IsExactRow : Table → PlainNetlist → List Bool → Formula → ℕ → Type 0
IsExactRow t net fuses f row =
    IsPrimeCover t net fuses (row ∷ []) (λ at. formula_value at f) (λ at. formula_value at f)
