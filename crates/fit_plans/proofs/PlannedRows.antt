-- Fuses that are written down one by one have the rows that were planned.
use Rattle.std.proofs.Common.{◌≡◌, ◌⊎◌, ℕ, suc, ◌+◌, ◌*◌, ◌/◌, ◌%◌, ◌-◌, ◌<◌, ◌≤◌, Bool, true, false, nat_lt, Option, Some, None, List, length, drop, get_or, refl, ap, sym, ◌∙◌, subst, arith, inl, inr, length-drop}
use Rattle.fit_plans.proofs.Common.{cases_Bool, lt-ltb, ltb-true, length-take, length-replicate, get_or-replicate, get_or-take, get_or-drop, length-map-range_with_len, get_or-map-range_with_len, is_on, IsDevice, Table, Cube, full_cube, planned_fuse, planned_row, fuse_level, fuses_of}
use Rattle.std.proofs.Math.Nat.{mul-le-mul_left, mul-add-div, mul-add-mod_self_left, div-eq_of_lt, mod-eq_of_lt}
use Rattle.pld_base.proofs.BitLemmas.{same_levels}
use Rattle.pld_device.specs.Rows.{row_fuses}
use Rattle.fit_plans.specs.RowCubes.{fuse_at, row_of, zeros, HoldsCubes}

-- a fuse of a row, by its column
is_on-row_fuses : (t : Table) (fuses : List Bool) (row column : ℕ) → column < t.columns → is_on (row_fuses t fuses row) column ≡ is_on fuses (t.columns * row + column)
is_on-row_fuses t fuses row column low =
    get_or-take (t.columns * row + t.columns - t.columns * row) (drop (t.columns * row) fuses) column false (omega (arith, low))
    ∙ get_or-drop (t.columns * row) fuses column false

module _ (t : Table) (laws : IsDevice t) (plan : ℕ → Option Cube) (control : ℕ → Bool) where
  pub fuses_long : length (fuses_of t plan control) ≡ t.fuses
  unfolding fuses_of
  fuses_long = length-map-range_with_len (fuse_level t plan control) 0 t.fuses

  fuse_is : (n : ℕ) → n < t.fuses → is_on (fuses_of t plan control) n ≡ fuse_level t plan control n
  unfolding fuses_of
  fuse_is n low = get_or-map-range_with_len (fuse_level t plan control) 0 t.fuses n n false low (omega arith)

  -- the fuses past the array
  pub control_is : (n : ℕ) → t.columns * t.rows ≤ n → n < t.fuses → is_on (fuses_of t plan control) n ≡ control n
  control_is n past low = fuse_is n low ∙ out (cases_Bool (nat_lt n (t.columns * t.rows)))
    where
      out : (nat_lt n (t.columns * t.rows) ≡ true) ⊎ (nat_lt n (t.columns * t.rows) ≡ false) → fuse_level t plan control n ≡ control n
      out (inl less) = let l = ltb-true n (t.columns * t.rows) less in absurd (omega (arith, l, past))
      out (inr off) = rw off refl

  planned_long : (p : Option Cube) → length (planned_row t p) ≡ t.columns
  unfolding row_of zeros
  planned_long None = length-replicate t.columns false
  planned_long (Some c) = length-map-range_with_len (fuse_at c) 0 t.columns

  planned_is : (p : Option Cube) (column : ℕ) → column < t.columns → is_on (planned_row t p) column ≡ planned_fuse p column
  unfolding row_of zeros
  planned_is None column low = get_or-replicate t.columns column false false low
  planned_is (Some c) column low = get_or-map-range_with_len (fuse_at c) 0 t.columns column column false low (omega arith)

  module _ (row : ℕ) (within : row < t.rows) where
    in_array : t.columns * row + t.columns ≤ t.columns * t.rows
    in_array = let below : t.columns * suc row ≤ t.columns * t.rows = mul-le-mul_left t.columns (omega arith) in omega (arith, below)

    row_long : length (row_fuses t (fuses_of t plan control) row) ≡ t.columns
    row_long =
        omega (arith, in_array, laws.sizes.array_fits, fuses_long, length-take (t.columns * row + t.columns - t.columns * row) (drop (t.columns * row) (fuses_of t plan control)), length-drop (t.columns * row) (fuses_of t plan control))

    column_is : (column : ℕ) → column < t.columns → is_on (row_fuses t (fuses_of t plan control) row) column ≡ planned_fuse (plan row) column
    column_is column low =
        let some : 0 < t.columns = omega (arith, low) in
        let inside : t.columns * row + column < t.columns * t.rows = omega (arith, low, in_array) in
        let same_row : (t.columns * row + column) / t.columns ≡ row = mul-add-div some row column ∙ (ap (λ i. row + i) (div-eq_of_lt low) ∙ omega arith) in
        let same_column : (t.columns * row + column) % t.columns ≡ column = mul-add-mod_self_left t.columns row column ∙ mod-eq_of_lt low in
        let here : fuse_level t plan control (t.columns * row + column) ≡ planned_fuse (plan row) column = rw (lt-ltb (t.columns * row + column) (t.columns * t.rows) inside, same_row, same_column) refl in
        is_on-row_fuses t (fuses_of t plan control) row column low
        ∙ (fuse_is (t.columns * row + column) (omega (arith, inside, laws.sizes.array_fits)) ∙ here)

    -- a row holds what was planned
    pub row_is : row_fuses t (fuses_of t plan control) row ≡ planned_row t (plan row)
    row_is =
        same_levels (row_fuses t (fuses_of t plan control) row) (planned_row t (plan row)) (row_long ∙ sym (planned_long (plan row)))
        (λ column below. let low = subst (λ n. column < n) row_long below in column_is column low ∙ sym (planned_is (plan row) column low))

  -- rows that were planned to hold cubes, and then nothing
  pub holds_planned : (first room : ℕ) (cubes : List Cube) → first + room ≤ t.rows → length cubes ≤ room
      → ((i : ℕ) → i < length cubes → plan (first + i) ≡ Some (get_or cubes i full_cube))
      → ((i : ℕ) → length cubes ≤ i → i < room → plan (first + i) ≡ None)
      → HoldsCubes t (fuses_of t plan control) first room cubes
  holds_planned first room cubes below fit some none = record {
    fit = fit;
    rows = λ i low. row_is (first + i) (omega (arith, low, fit, below)) ∙ ap (planned_row t) (some i low);
    rest = λ i past low. row_is (first + i) (omega (arith, low, below)) ∙ ap (planned_row t) (none i past low);
  }
