-- Fuses with the same levels wherever the device reads them make the same logic.
use Rattle.std.proofs.Common.{◌≡◌, ℕ, suc, ◌+◌, ◌*◌, ◌-◌, ◌<◌, ◌≤◌, Bool, false, List, length, get_or, slice_get, slice_range, map, Option, None, Some, refl, ap, sym, ◌∙◌, arith, inl, inr}
use Rattle.std.proofs.Math.Nat.{mul-le-mul_left, mul-suc}
use Rattle.std.proofs.Math.Path.{fun_ext}
use Rattle.std.proofs.lemmas.Bool.{cases_lt}
use Rattle.std.proofs.lemmas.List.{ext_get_or, get_or_past, get_or-drop, get_or-take, length-drop, length-take}
use Rattle.device_logic.proofs.Ranges.{preset_in, reset_in}
use Rattle.device_logic.proofs.Runs.{any_same}
use Rattle.pld_base.specs.Bits.{is_on, same_level}
use Rattle.pld_base.specs.Logic.{Logic}
use Rattle.pld_base.specs.Points.{Levels}
use Rattle.pld_device.specs.Laws.{IsDevice}
use Rattle.pld_device.specs.Macrocells.{device_logic, enabled_by, is_enabled, next_q, or_value, pin_level, row_if_any}
use Rattle.pld_device.specs.Registers.{says, stores, stores_by}
use Rattle.pld_device.specs.Rows.{carried, pair_values, row_fuses, row_value, switched_by}
use Rattle.pld_device.specs.Table.{Table, cell_at, inverted_at, no_cell, registered_at}
use Rattle.pld_device.specs.declared.carry.Carry.{Carry}
use Rattle.pld_device.specs.declared.carry.Carry.TheVariants as carry
use Rattle.pld_device.specs.declared.cell.Cell.{Cell}
use Rattle.pld_device.specs.declared.enable.Enable.{Enable}
use Rattle.pld_device.specs.declared.enable.Enable.TheVariants.{Driven, PinLow, Released, Row}

-- ---- slices

pub same_slices : (a b : List Bool) (i j : ℕ) → j ≤ length a → j ≤ length b → ((k : ℕ) → k < j → is_on a k ≡ is_on b k) → slice_range a i j ≡ slice_range b i j
same_slices a b i j long_a long_b same = elim (cases_lt i j) [
  | inl low ↦
      ext_get_or false (slice_range a i j) (slice_range b i j)
      (size a long_a ∙ sym (size b long_b))
      (λ k inside. at a long_a k (let n = size a long_a in omega (arith, inside, n)) ∙ (same (i + k) (let n = size a long_a in omega (arith, inside, n, low)) ∙ sym (at b long_b k (let n = size a long_a in omega (arith, inside, n)))))
  | inr high ↦ let none : j - i ≡ 0 = omega (arith, high) in rw none refl
]
  where
    size : (xs : List Bool) → j ≤ length xs → length (slice_range xs i j) ≡ j - i
    size xs long = simp (length-take, length-drop) (omega (arith, long))

    at : (xs : List Bool) → j ≤ length xs → (k : ℕ) → k < j - i → get_or (slice_range xs i j) k false ≡ is_on xs (i + k)
    at xs long k low = rw (get_or-take, get_or-drop) refl

-- ---- what a device reads

-- the levels are the same in the array and at each control fuse
pub record Agree (t : Table) (a b : List Bool) : Type 0 where
  pub long_a : t.columns * t.rows ≤ length a
  pub long_b : t.columns * t.rows ≤ length b
  pub array : (k : ℕ) → k < t.columns * t.rows → is_on a k ≡ is_on b k
  pub inverted : (c : ℕ) → says a (inverted_at t c) ≡ says b (inverted_at t c)
  pub registered : (c : ℕ) → says a (registered_at t c) ≡ says b (registered_at t c)
  pub switches : (row : ℕ) → switched_by a (slice_get t.row_switches row) ≡ switched_by b (slice_get t.row_switches row)

module _ (t : Table) (laws : IsDevice t) (some : 0 < t.rows) (a b : List Bool) (agree : Agree t a b) where
  stores_same : (c : ℕ) → stores t a c ≡ stores t b c
  stores_same c = ap (stores_by (cell_at t c).kinds) (agree.registered c)

  row_in : (row : ℕ) → row < t.rows → t.columns * row + t.columns ≤ t.columns * t.rows
  row_in row within = let below : t.columns * suc row ≤ t.columns * t.rows = mul-le-mul_left t.columns (omega (arith, within)) in rw mul-suc at below

  fuses_same : (row : ℕ) → row < t.rows → row_fuses t a row ≡ row_fuses t b row
  fuses_same row within =
      let low = row_in row within in
      same_slices a b (t.columns * row) (t.columns * row + t.columns) (omega (arith, low, agree.long_a)) (omega (arith, low, agree.long_b))
      (λ k inside. agree.array k (omega (arith, inside, low)))

  -- ---- the rows of a cell are in the array

  data_in : (c row : ℕ) → row < (cell_at t c).first + (cell_at t c).room → row < t.rows
  data_in c row high = elim (cases_lt c (length t.cells)) [
    | inl within ↦ let below = (laws.cells c no_cell within).data_below in omega (arith, high, below)
    | inr past ↦ let none = rw (get_or_past t.cells c no_cell past) at high in absurd (omega (arith, none))
  ]

  enable_in : (c row : ℕ) → (cell_at t c).enable ≡ Row row → row < t.rows
  enable_in c row is = elim (cases_lt c (length t.cells)) [
    | inl within ↦ (laws.cells c no_cell within).enable_below row is
    | inr past ↦ let zero_row = rw (get_or_past t.cells c no_cell past) at is in let same : 0 ≡ row = cc zero_row in omega (arith, same, some)
  ]

  module _ (at : Levels) where
    carried_same : (x : Carry) → carried t a at x ≡ carried t b at x
    carried_same (carry.Pin pin) = refl
    carried_same (carry.Cell c) = rw (stores_same c) refl

    values_same : pair_values t a at ≡ pair_values t b at
    values_same = ap (λ g. map g t.pairs) (fun_ext carried_same)

    row_same : (row : ℕ) → row < t.rows → row_value t a at row ≡ row_value t b at row
    row_same row within = rw (agree.switches row, fuses_same row within, values_same) refl

    or_same : (c : ℕ) → or_value t a at c ≡ or_value t b at c
    or_same c = any_same (row_value t a at) (row_value t b at) (cell_at t c).first (cell_at t c).room (λ row low high. row_same row (data_in c row high))

    enabled_same : (c : ℕ) → is_enabled t a at c ≡ is_enabled t b at c
    enabled_same c = by_enable (cell_at t c).enable refl
      where
        by_enable : (e : Enable) → (cell_at t c).enable ≡ e → enabled_by t a at e ≡ enabled_by t b at e
        by_enable (Row row) is = row_same row (enable_in c row is)
        by_enable (PinLow pin) is = refl
        by_enable Driven is = refl
        by_enable Released is = refl

    level_same : (c : ℕ) → pin_level t a at c ≡ pin_level t b at c
    level_same c = rw (stores_same c, agree.inverted c, or_same c) refl

    next_same : (c : ℕ) → next_q t a at c ≡ next_q t b at c
    next_same c = rw (agree.inverted c, or_same c) refl

    if_any_same : (row : Option ℕ) → ((r : ℕ) → row ≡ Some r → r < t.rows) → row_if_any t a at row ≡ row_if_any t b at row
    if_any_same None within = refl
    if_any_same (Some row) within = row_same row (within row refl)

  -- ---- the logic

  -- a logic of the table, from what it reads of fuses
  abbrev of_tests : (stored : ℕ → Bool) → (enables : Levels → ℕ → Bool) → (levels : Levels → ℕ → Bool) → (resets presets : Levels → Bool) → (nexts : Levels → ℕ → Bool) → Logic
  of_tests stored enables levels resets presets nexts = record {
    cells = length t.cells;
    pin = λ c. (cell_at t c).pin;
    stores = stored;
    clock = t.clock;
    is_node = λ n. false;
    enabled = enables;
    allows_level = λ at c level. same_level level (levels at c);
    allows_node = λ at n value. same_level value false;
    reset = λ at c. resets at;
    preset = λ at c. presets at;
    allows_next = λ at c q. same_level q (nexts at c);
  }

  pub same_logic : device_logic t a ≡ device_logic t b
  same_logic =
      let one = fun_ext stores_same in
      let two = fun_ext (λ at. fun_ext (enabled_same at)) in
      let three = fun_ext (λ at. fun_ext (level_same at)) in
      let four = fun_ext (λ at. if_any_same at t.reset (reset_in t laws)) in
      let five = fun_ext (λ at. if_any_same at t.preset (preset_in t laws)) in
      let six = fun_ext (λ at. fun_ext (next_same at)) in
      joined one two three four five six
    where
      joined : {s s' : ℕ → Bool} {e e' l l' n n' : Levels → ℕ → Bool} {r r' p p' : Levels → Bool} → s ≡ s' → e ≡ e' → l ≡ l' → r ≡ r' → p ≡ p' → n ≡ n'
          → of_tests s e l r p n ≡ of_tests s' e' l' r' p' n'
      joined a1 a2 a3 a4 a5 a6 = rw (a1, a2, a3, a4, a5, a6) refl
