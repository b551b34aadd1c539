-- A cell asks the same at two points at which all that it reads is the same.
use Rattle.std.proofs.Common.{◌≡◌, ℕ, zero, suc, ◌*◌, ◌<◌, ◌≤◌, Bool, true, false, not, List, [], ◌∷◌, map, length, Some, slice_get, refl, ap, sym, ◌∙◌, subst, inl, inr}
use Rattle.device_logic.proofs.Common.{cases_Bool, true≢false, is_on, Levels, Carry, Enable, Row, PinLow, Driven, Released, Table, cell_at, stores, is_inverted, carried, row_value, complement_if, pin_complements, output_value, enabled_by, is_enabled, pin_level, row_reads, enables_never, never_drives, is_free_pin, row_same, never_true, row_reads_cell, enable_reads, rest_reads}
use Rattle.pld_device.specs.declared.carry.Carry.TheVariants as carry
use Rattle.device_logic.proofs.FreeReads.{RowReadsFree, EnableReadsFree, ReadsFreePins}
use Rattle.device_logic.proofs.Runs.{any_same}
use Rattle.device_logic.proofs.ReadCells.{row_reads_cell-at, rest_reads-enable, rest_reads-data}

-- what the pairs carry, place by place
values_same : (f g : Carry → Bool) (carries : List Carry) (pair : ℕ) → ((x : Carry) → slice_get carries pair ≡ Some x → f x ≡ g x) → is_on (map f carries) pair ≡ is_on (map g carries) pair
values_same f g [] pair same = refl
values_same f g (x ∷ carries) zero same = same x refl
values_same f g (x ∷ carries) (suc pair) same = values_same f g carries pair same

-- cells that never drive are not enabled
pub not_enabled : (t : Table) (fuses : List Bool) (at : Levels) (c : ℕ) → t.columns ≤ 2 * length t.pairs → never_drives t fuses c ≡ true → is_enabled t fuses at c ≡ false
not_enabled t fuses at c wide never = by_enable (cell_at t c).enable never
  where
    by_enable : (e : Enable) → enables_never t fuses e ≡ true → enabled_by t fuses at e ≡ false
    by_enable (Row row) off = never_true t fuses row at wide off
    by_enable (PinLow pin) off = absurd (true≢false (sym off))
    by_enable Driven off = absurd (true≢false (sym off))
    by_enable Released off = refl

module _ (t : Table) (fuses : List Bool) (free : ReadsFreePins t fuses) (c : ℕ) (a b : Levels) where
  -- a row whose pins without cells and whose cells are the same at both
  pub row_equal : ((pin : ℕ) → is_free_pin t pin ≡ true → is_on a.pins pin ≡ is_on b.pins pin) → (row : ℕ) → RowReadsFree t fuses row
      → ((d : ℕ) → row_reads_cell t fuses row d ≡ true → carried t fuses a (carry.Cell d) ≡ carried t fuses b (carry.Cell d))
      → row_value t fuses a row ≡ row_value t fuses b row
  row_equal pins row pins_free cells =
      row_same t fuses row a b free.columns (λ pair read. values_same (carried t fuses a) (carried t fuses b) t.pairs pair (by_carry pair read))
    where
      by_carry : (pair : ℕ) → row_reads t fuses row pair ≡ true → (x : Carry) → slice_get t.pairs pair ≡ Some x → carried t fuses a x ≡ carried t fuses b x
      by_carry pair read (carry.Pin pin) is = pins pin (pins_free pair pin read is)
      by_carry pair read (carry.Cell d) is = cells d (row_reads_cell-at t fuses row pair d is read)

  module _ (within : c < length t.cells)
      (pins : (pin : ℕ) → is_free_pin t pin ≡ true → is_on a.pins pin ≡ is_on b.pins pin)
      (cells : (d : ℕ) → rest_reads t fuses c d ≡ true → carried t fuses a (carry.Cell d) ≡ carried t fuses b (carry.Cell d))
      (q : stores t fuses c ≡ true → is_on a.q c ≡ is_on b.q c) where
    enable_same : never_drives t fuses c ≡ false → (e : Enable) → (cell_at t c).enable ≡ e → EnableReadsFree t fuses e → enabled_by t fuses a e ≡ enabled_by t fuses b e
    enable_same drives (Row row) is pins_free = row_equal pins row pins_free (λ d reads. cells d (rest_reads-enable t fuses c d drives (subst (λ e. enable_reads t fuses e d ≡ true) (sym is) reads)))
    enable_same drives (PinLow pin) is pin_free = ap not (pins pin pin_free)
    enable_same drives Driven is pin_free = refl
    enable_same drives Released is pin_free = refl

    output_same : never_drives t fuses c ≡ false → output_value t fuses a c ≡ output_value t fuses b c
    output_same drives =
        elim (cases_Bool (stores t fuses c)) [
          | inl kept ↦ rw kept (q kept)
          | inr plain ↦ rw plain (
              any_same (row_value t fuses a) (row_value t fuses b) (cell_at t c).first (cell_at t c).room
              (λ row low high. row_equal pins row (free.data_rows c row within drives (low, high)) (λ d reads. cells d (rest_reads-data t fuses c row d drives plain (low, high) reads))))
        ]

    -- it has one enable at both, and one level while enabled
    pub cell_same : (is_enabled t fuses a c ≡ is_enabled t fuses b c) × (is_enabled t fuses a c ≡ true → pin_level t fuses a c ≡ pin_level t fuses b c)
    cell_same =
        elim (cases_Bool (never_drives t fuses c)) [
          | inl never ↦
              let off : is_enabled t fuses a c ≡ false = not_enabled t fuses a c free.columns never in
              (off ∙ sym (not_enabled t fuses b c free.columns never), λ on. absurd (true≢false (sym on ∙ off)))
          | inr drives ↦ (
            enable_same drives (cell_at t c).enable refl (free.enables c within),
            λ on. ap (complement_if (pin_complements t.flip (stores t fuses c) (is_inverted t fuses c))) (output_same drives),
          )
        ]
