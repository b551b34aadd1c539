-- Rows that are all 0 are never true.
use Rattle.std.proofs.Common.{◌≡◌, ℕ, zero, suc, ◌+◌, ◌*◌, ◌<◌, Bool, true, false, not, ◌||◌, List, [], ◌∷◌, length, refl, arith}
use Rattle.netlist_laws.proofs.Common.{list_any, is_on, Levels, IsDevice, has_whole_pair, is_never_true, row_fuses, is_switched_on, row_value, Table, no_cell, IsDataRow, has_pairs, row_whole, is_used}
use Rattle.pld_device.proofs.RowReads.{never_true}
use Rattle.netlist_laws.proofs.BoolLaws.{neither}

none_on : (fs : List Bool) (k : ℕ) → list_any (λ f. f) fs ≡ false → is_on fs k ≡ false
none_on [] k none = refl
none_on (f ∷ fs) zero none = (neither f (list_any (λ g. g) fs) none).0
none_on (f ∷ fs) (suc k) none = none_on fs k (neither f (list_any (λ g. g) fs) none).1

module _ (t : Table) (laws : IsDevice t) (fuses : List Bool) (size : length fuses ≡ t.fuses) where
  pub unused_never : (row : ℕ) → row < t.rows → is_used t fuses row ≡ false → is_never_true t fuses row ≡ true
  unused_never row within unused =
      let some : 0 < length t.pairs = omega (arith, laws.sizes.columns_low, laws.sizes.columns_even) in
      let whole : has_whole_pair (row_fuses t fuses row) ≡ true =
      row_whole t fuses row laws.sizes.columns_even laws.sizes.array_fits size within 0 some (rw (none_on (row_fuses t fuses row) (2 * 0) unused, none_on (row_fuses t fuses row) (2 * 0 + 1) unused) refl) in
      rw whole (last (is_switched_on t fuses row))
    where
      last : (on : Bool) → (not on || true) ≡ true
      last true = refl
      last false = refl

  -- a row that is all 0 is never true
  pub unused_value : (row : ℕ) (at : Levels) → row < t.rows → is_used t fuses row ≡ false → row_value t fuses at row ≡ false
  unused_value row at within unused = never_true t fuses row at (has_pairs t laws) (unused_never row within unused)

-- a data row lies in the array
pub data_row_below : (t : Table) → IsDevice t → (c row : ℕ) → c < length t.cells → IsDataRow t c row → row < t.rows
data_row_below t laws c row within here = let below = (laws.cells c no_cell within).data_below in omega (arith, here.1, below)
