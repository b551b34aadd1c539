-- Rows that are given by known leaves read known cells alone.
use Rattle.std.proofs.Common.{◌≡◌, ℕ, ◌<◌, Bool, true, false, ◌==◌, List, [], ◌∷◌, length, Some, slice_get, refl}
use Rattle.netlist_laws.proofs.Common.{list_any, eq-eqb, or_left, Levels, Carry, Table, cell_at, IsDataRow, IsDevice, data_rows, row_reads, row_value, has, row_reads_cell, any_at, Leaf, Formula, formula_value, Wanted, PlainNetlist, IsValuedFor, is_used, IsPrimeRow, IsExactRow, netlist_waits, signal_count, IsSoundFormula, IsSoundFunction, IsSound, or_may_be, IsFittedCell, Ranked}
use Rattle.pld_device.specs.declared.carry.Carry.TheVariants as carry
use Rattle.device_logic.proofs.ReadCells.{row_reads_cell-pair}
use Rattle.netlist_laws.proofs.Valuing.{AgreeOn, IsKnown, IsClosed, same_value}
use Rattle.netlist_laws.proofs.CoverReads.{leaf_of, reads_known}

-- known leaves say if the row may be true, and the row is true only there and prime
pub record IsTold (t : Table) (net : PlainNetlist) (fuses : List Bool) (known : Leaf → Type 0) (row : ℕ) : Type 0 where
  pub within : row < t.rows
  pub allowed : Levels → Bool
  pub told : (a b : Levels) → IsValuedFor t net a → IsValuedFor t net b → AgreeOn known a b → allowed a ≡ allowed b
  pub right : (at : Levels) → IsValuedFor t net at → row_value t fuses at row ≡ true → allowed at ≡ true
  pub prime : is_used t fuses row ≡ true → IsPrimeRow t net fuses allowed row

has_one : (row : ℕ) → has (row ∷ []) row ≡ true
has_one row = or_left (row == row) false (eq-eqb row row refl)

-- a data row is one of the cell's
pub has_row : (t : Table) (c row : ℕ) → IsDataRow t c row → has (data_rows t c) row ≡ true
has_row t c row here = any_at (λ x. row == x) (cell_at t c).first (cell_at t c).room row here.0 here.1 (eq-eqb row row refl)

-- one that is true makes the OR true
pub any_row : (t : Table) (fuses : List Bool) (at : Levels) (c row : ℕ) → IsDataRow t c row → row_value t fuses at row ≡ true → list_any (row_value t fuses at) (data_rows t c) ≡ true
any_row t fuses at c row here on = any_at (row_value t fuses at) (cell_at t c).first (cell_at t c).room row here.0 here.1 on

module _ (t : Table) (laws : IsDevice t) (fuses : List Bool) (size : length fuses ≡ t.fuses) (net : PlainNetlist) (sound : IsSound t net) (ranks : Ranked (signal_count t net) (netlist_waits t net)) (known : Leaf → Type 0) where
  pub told_reads : (row : ℕ) → IsTold t net fuses known row → (pair : ℕ) (x : Carry) → slice_get t.pairs pair ≡ Some x → row_reads t fuses row pair ≡ true → (known (leaf_of t fuses x) → ⊥) → ⊥
  told_reads row is pair x found reads unknown = reads_known t laws fuses size net sound ranks known row is.allowed is.within is.told is.right is.prime pair x found reads unknown

  -- a cell is read only by a known leaf
  pub told_cell : (row d : ℕ) → IsTold t net fuses known row → row_reads_cell t fuses row d ≡ true → (known (leaf_of t fuses (carry.Cell d)) → ⊥) → ⊥
  told_cell row d is reads unknown =
      let p = row_reads_cell-pair t fuses row d reads in
      told_reads row is p.pair (carry.Cell d) p.carried p.reads unknown

  module _ (closed : IsClosed net known) where
    -- a row with a formula's value, whose leaves are known
    pub exact_told : (row : ℕ) (f : Formula) → row < t.rows → IsSoundFormula t net f → IsKnown known f → IsExactRow t net fuses f row → IsTold t net fuses known row
    exact_told row f within readable all exact = record {
      within = within;
      allowed = λ at. formula_value at f;
      told = λ a b a_is b_is agree. same_value t net sound ranks known closed a b a_is b_is agree f readable all;
      right = λ at is on. exact.at_allowed at is (or_left (row_value t fuses at row) false on);
      prime = λ used. exact.no_literal row (has_one row) used;
    }

    -- a data row of a cell whose function's leaves are known
    pub data_told : (c row : ℕ) (w : Wanted) → row < t.rows → IsDataRow t c row → IsSoundFunction t net w.function → IsKnown known w.function.one → IsKnown known w.function.any → IsFittedCell t net fuses c w → IsTold t net fuses known row
    data_told c row w within here readable one any cell = record {
      within = within;
      allowed = λ at. or_may_be t fuses c w at true;
      told = λ a b a_is b_is agree.
          let same_one = same_value t net sound ranks known closed a b a_is b_is agree w.function.one readable.one one in
          let same_any = same_value t net sound ranks known closed a b a_is b_is agree w.function.any readable.any any in
          rw (same_one, same_any) refl;
      right = λ at is on. cell.rows.at_allowed at is (any_row t fuses at c row here on);
      prime = λ used. cell.rows.no_literal row (has_row t c row here) used;
    }
