-- Whose a row is: a cell's data row is that cell's alone.
use Rattle.std.proofs.Common.{◌≡◌, ℕ, zero, suc, ◌+◌, ◌-◌, ◌<◌, ◌≤◌, Bool, true, false, ◌==◌, Option, None, Some, List, ◌∷◌, length, drop, slice_get, refl, ap, sym, ◌∙◌, arith}
use Rattle.fit_plans.proofs.Common.{nat_tests, eqb-true, get_or_from_slice_get, slice_get-get_or, slice_get_within, drop_more, drop_all, IsDevice, Table, no_cell, cell_at, IsDataRow, Data, Enabling, Reset, Preset, CellPlan, Plan, DevicesHaveOwners, planned, is_data, is_row, enables_as, enables, shared_owner, owner_from, owner}
use Rattle.pld_device.specs.declared.cell.Cell.{Cell}
use Rattle.pld_device.specs.declared.enable.Enable.{Enable}
use Rattle.pld_device.specs.declared.enable.Enable.TheVariants.{Row, PinLow, Driven, Released}
use Rattle.pld_device.proofs.RowsApart.{rows_apart}

drop_at : {X : Type 0} (xs : List X) (i : ℕ) (x : X) → slice_get xs i ≡ Some x → drop i xs ≡ x ∷ drop (i + 1) xs
drop_at {X = X} xs i x there = drop_more xs i x (slice_get_within xs i x there) ∙ ap (λ (y : X). y ∷ drop (i + 1) xs) (get_or_from_slice_get xs i x x there)

pub owner_start : (t : Table) (row : ℕ) → owner_from t 0 t.cells row ≡ owner t row
unfolding owner
owner_start t row = refl

-- the next cell
pub owner_next : (t : Table) (c row : ℕ) (x : Cell) → slice_get t.cells c ≡ Some x → is_data x row ≡ false → enables x row ≡ false
    → owner_from t c (drop c t.cells) row ≡ owner_from t (c + 1) (drop (c + 1) t.cells) row
owner_next t c row x there data_off enable_off =
    let e : c + 1 ≡ suc c = omega arith in
    rw (drop_at t.cells c x there, data_off, enable_off) (ap (λ k. owner_from t k (drop (c + 1) t.cells) row) (sym e))

pub owner_data : (t : Table) (c row : ℕ) (x : Cell) → slice_get t.cells c ≡ Some x → is_data x row ≡ true
    → owner_from t c (drop c t.cells) row ≡ Data c (row - x.first)
owner_data t c row x there on = rw (drop_at t.cells c x there, on) refl

pub owner_enable : (t : Table) (c row : ℕ) (x : Cell) → slice_get t.cells c ≡ Some x → is_data x row ≡ false → enables x row ≡ true
    → owner_from t c (drop c t.cells) row ≡ Enabling c
owner_enable t c row x there off on = rw (drop_at t.cells c x there, off, on) refl

-- ---- the owner, by the device's laws

data_is : (cell : Cell) (row : ℕ) → is_data cell row ≡ true → (cell.first ≤ row) × (row < cell.first + cell.room)
data_is cell row on = (grind (arith, nat_tests, on), grind (arith, nat_tests, on))

data_on : (cell : Cell) (row : ℕ) → cell.first ≤ row → row < cell.first + cell.room → is_data cell row ≡ true
data_on cell row low high = grind (arith, nat_tests, low, high)

enables_is : (e : Enable) (row : ℕ) → enables_as e row ≡ true → e ≡ Row row
enables_is (Row enabling) row on = ap Row (eqb-true enabling row on)
enables_is (PinLow pin) row on = absurd cc
enables_is Driven row on = absurd cc
enables_is Released row on = absurd cc

enables_on : (e : Enable) (row : ℕ) → e ≡ Row row → enables_as e row ≡ true
enables_on e row same = rw same (grind (arith, nat_tests))

off_unless : (b : Bool) → (b ≡ true → ⊥) → b ≡ false
off_unless true isnt = absurd (isnt refl)
off_unless false isnt = refl

own_row : (row : ℕ) → (row == row) ≡ true
own_row row = grind (arith, nat_tests)

row_there : (own : Option ℕ) (row : ℕ) → is_row own row ≡ true → own ≡ Some row
row_there None row on = absurd cc
row_there (Some own) row on = ap Some (eqb-true own row on)

module _ (t : Table) (laws : IsDevice t) (row : ℕ) where
  there_at : (c : ℕ) → c < length t.cells → slice_get t.cells c ≡ Some (cell_at t c)
  there_at c low = slice_get-get_or t.cells c no_cell low

  -- the row is nothing of the cell
  abbrev IsForeign : ℕ → Type 0
  IsForeign c = (is_data (cell_at t c) row ≡ false) × (enables (cell_at t c) row ≡ false)

  foreign : (c : ℕ) → (IsDataRow t c row → ⊥) → ((cell_at t c).enable ≡ Row row → ⊥) → IsForeign c
  foreign c as_data as_enable =
      (off_unless (is_data (cell_at t c) row) (λ on. as_data (data_is (cell_at t c) row on)), off_unless (enables (cell_at t c) row) (λ on. as_enable (enables_is (cell_at t c).enable row on)))

  passes : (n : ℕ) → n ≤ length t.cells → ((c : ℕ) → c < n → IsForeign c) → owner t row ≡ owner_from t n (drop n t.cells) row
  passes zero low all = sym (owner_start t row)
  passes (suc n) low all =
      let e : n + 1 ≡ suc n = omega arith in
      let here = all n (omega arith) in
      passes n (omega (arith, low)) (λ c less. all c (omega (arith, less)))
      ∙ owner_next t n row (cell_at t n) (there_at n (omega (arith, low))) here.0 here.1
      ∙ ap (λ k. owner_from t k (drop k t.cells) row) e

  -- a data row is its cell's, at its place
  pub data_owner : (c : ℕ) → c < length t.cells → IsDataRow t c row → owner t row ≡ Data c (row - (cell_at t c).first)
  data_owner c low is =
      let apart = rows_apart t laws in
      passes c (omega (arith, low)) (λ d less. foreign d
      (λ other. let same = apart.data_rows c d row is other in omega (arith, same, less))
      (λ other. apart.data_enables_none c d row is (omega (arith, low, less), other)))
      ∙ owner_data t c row (cell_at t c) (there_at c low) (data_on (cell_at t c) row is.0 is.1)

  -- and so is one that enables it
  pub enable_owner : (c : ℕ) → c < length t.cells → (cell_at t c).enable ≡ Row row → owner t row ≡ Enabling c
  enable_owner c low is =
      let apart = rows_apart t laws in
      passes c (omega (arith, low)) (λ d less. foreign d
      (λ other. apart.data_enables_none d c row other (low, is))
      (λ other. let same = apart.enable_rows c d row (low, is) (omega (arith, low, less), other) in omega (arith, same, less)))
      ∙ owner_enable t c row (cell_at t c) (there_at c low)
      (off_unless (is_data (cell_at t c) row) (λ on. apart.data_enables_none c c row (data_is (cell_at t c) row on) (low, is)))
      (enables_on (cell_at t c).enable row is)

  past_cells : ((c : ℕ) → c < length t.cells → IsForeign c) → owner t row ≡ shared_owner t row
  past_cells all = passes (length t.cells) (omega arith) all ∙ ap (λ xs. owner_from t (length t.cells) xs row) (drop_all (length t.cells) t.cells (omega arith))

  pub reset_owner : t.reset ≡ Some row → owner t row ≡ Reset
  reset_owner is =
      let apart = rows_apart t laws in
      past_cells (λ c low. foreign c (λ other. apart.data_resets_none c row other is) (λ other. apart.enable_resets_none c row (low, other) is))
      ∙ (rw (is, own_row row) refl)

  pub preset_owner : t.preset ≡ Some row → owner t row ≡ Preset
  preset_owner is =
      let apart = rows_apart t laws in
      past_cells (λ c low. foreign c (λ other. apart.data_presets_none c row other is) (λ other. apart.enable_presets_none c row (low, other) is))
      ∙ (rw (off_unless (is_row t.reset row) (λ on. apart.reset_presets_none row (row_there t.reset row on) is), is, own_row row) refl)

pub have_owners : DevicesHaveOwners
have_owners t laws = record {
  data_rows = λ c row. data_owner t laws row c;
  enables = λ c row. enable_owner t laws row c;
  resets = reset_owner t laws;
  presets = preset_owner t laws;
}

-- what a data row is to hold
pub planned_data : (t : Table) → IsDevice t → (p : Plan) (x : CellPlan) (c i : ℕ) → c < length t.cells → slice_get p.cells c ≡ Some x → i < (cell_at t c).room
    → planned t p ((cell_at t c).first + i) ≡ slice_get x.rows i
planned_data t laws p x c i low there within =
    let back : ((cell_at t c).first + i) - (cell_at t c).first ≡ i = omega arith in
    rw (data_owner t laws ((cell_at t c).first + i) c low (omega arith, omega (arith, within)), there, back) refl
