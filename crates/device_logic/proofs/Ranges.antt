-- What a device's laws say of the numbers that its look-ups answer.
use Rattle.std.proofs.Common.{◌≡◌, ℕ, ◌<◌, [], ◌∷◌, ◌++◌, length, Option, Some, None, slice_get, IfSome, refl, ap, sym, subst, arith, inl, inr, length-append}
use Rattle.device_logic.proofs.Common.{cases_lt, eq-eqb, get_or_from_slice_get, slice_get_within, Carry, Cell, Enable, Row, PinLow, Driven, Released, Table, cell_at, no_cell, inverted_at, registered_at, Resets, Presets, use_if, is_row, cell_uses, uses_of, Control, Inverts, Registers, fuse_if_any, fuse_for, IsPair, IsCell, IsDevice, CarryInRange, EnableInRange}
use Rattle.pld_device.specs.declared.carry.Carry.TheVariants as carry
use Rattle.pld_device.specs.declared.fuse_bit.FuseBit.{FuseBit}

module _ (t : Table) (laws : IsDevice t) where
  pub carry_in_range : (pair : ℕ) (x : Carry) → slice_get t.pairs pair ≡ Some x → CarryInRange t x
  carry_in_range pair x found = by_carry x (subst (IsPair t) (get_or_from_slice_get t.pairs pair x (carry.Pin 0) found) (laws.pairs pair (carry.Pin 0) (slice_get_within t.pairs pair x found)))
    where
      by_carry : (y : Carry) → IsPair t y → CarryInRange t y
      by_carry (carry.Pin pin) law = omega (arith, law.0.high, laws.sizes.pins_high)
      by_carry (carry.Cell c) law = law

  pub cell_found : (c : ℕ) (x : Cell) → slice_get t.cells c ≡ Some x → x ≡ cell_at t c
  cell_found c x found = sym (get_or_from_slice_get t.cells c x no_cell found)

  pub cell_law : (c : ℕ) (x : Cell) → slice_get t.cells c ≡ Some x → IsCell t x
  cell_law c x found = subst (IsCell t) (get_or_from_slice_get t.cells c x no_cell found) (laws.cells c no_cell (slice_get_within t.cells c x found))

  pub cell_pin : (x : Cell) → IsCell t x → x.pin < 32
  cell_pin x law = omega (arith, law.pin.high, laws.sizes.pins_high)

  pub cell_enable : (x : Cell) → IsCell t x → EnableInRange t x.enable
  cell_enable x law = by_enable x.enable refl
    where
      by_enable : (e : Enable) → x.enable ≡ e → EnableInRange t e
      by_enable (Row row) is = law.enable_below row is
      by_enable (PinLow pin) is = omega (arith, (law.enable_pin pin is).high, laws.sizes.pins_high)
      by_enable Driven is = tt
      by_enable Released is = tt

  -- control fuses are fuses of the device
  control_in : (what : Control) (bit : Option FuseBit) → fuse_for t what ≡ fuse_if_any bit → IfSome bit (λ b. b.fuse < t.fuses)
  control_in what None is = tt
  control_in what (Some b) is = (laws.control what b.fuse is).below

  pub inverted_in : (c : ℕ) → IfSome (inverted_at t c) (λ b. b.fuse < t.fuses)
  inverted_in c = control_in (Inverts c) (inverted_at t c) refl

  pub registered_in : (c : ℕ) → IfSome (registered_at t c) (λ b. b.fuse < t.fuses)
  registered_in c = control_in (Registers c) (registered_at t c) refl

  -- the row that resets, and the one that presets, are rows of the array
  used : (row : ℕ) → (uses_of t row ≡ [] → ⊥) → row < t.rows
  used row some =
      elim (cases_lt row t.rows) [
        | inl within ↦ within
        | inr past ↦ absurd (some (laws.unused_past row past))
      ]

  pub reset_in : (row : ℕ) → t.reset ≡ Some row → row < t.rows
  reset_in row is = used row (λ none. some_use is none)
    where
      some_use : t.reset ≡ Some row → uses_of t row ≡ [] → ⊥
      some_use same none =
          let here : use_if (is_row t.reset row) Resets ≡ Resets ∷ [] = rw (same, eq-eqb row row refl) refl in
          omega (arith, length-append (cell_uses 0 t.cells row) (use_if (is_row t.reset row) Resets ++ use_if (is_row t.preset row) Presets), length-append (use_if (is_row t.reset row) Resets) (use_if (is_row t.preset row) Presets), ap length here, ap length none)

  pub preset_in : (row : ℕ) → t.preset ≡ Some row → row < t.rows
  preset_in row is = used row (λ none. some_use is none)
    where
      some_use : t.preset ≡ Some row → uses_of t row ≡ [] → ⊥
      some_use same none =
          let here : use_if (is_row t.preset row) Presets ≡ Presets ∷ [] = rw (same, eq-eqb row row refl) refl in
          omega (arith, length-append (cell_uses 0 t.cells row) (use_if (is_row t.reset row) Resets ++ use_if (is_row t.preset row) Presets), length-append (use_if (is_row t.reset row) Resets) (use_if (is_row t.preset row) Presets), ap length here, ap length none)

  pub reset_if_any : IfSome t.reset (λ row. row < t.rows)
  reset_if_any = by_row t.reset (λ row is. reset_in row is)
    where
      by_row : (o : Option ℕ) → ((row : ℕ) → o ≡ Some row → row < t.rows) → IfSome o (λ row. row < t.rows)
      by_row None within = tt
      by_row (Some row) within = within row refl

  pub preset_if_any : IfSome t.preset (λ row. row < t.rows)
  preset_if_any = by_row t.preset (λ row is. preset_in row is)
    where
      by_row : (o : Option ℕ) → ((row : ℕ) → o ≡ Some row → row < t.rows) → IfSome o (λ row. row < t.rows)
      by_row None within = tt
      by_row (Some row) within = within row refl
