-- If no chain of reads leads from the reset row to a register, resets depend on no Q.
use Rattle.std.proofs.Common.{◌≡◌, ℕ, zero, suc, ◌<◌, Bool, true, false, not, ◌||◌, eqb, List, [], ◌∷◌, map, length, get_or, Option, Some, None, slice_get, refl, ap, sym, ◌∙◌, subst, inl, inr}
use Rattle.device_logic.proofs.Common.{cases_Bool, cases_lt, or_cases, and_parts, and_from, true≢false, list_any, length-map, get_or_from_slice_get, slice_get_within, slice_get-get_or, is_on, Levels, Enable, Row, PinLow, Driven, Released, IsPair, IsDevice, data_rows, row_if_any, stores, carried, Table, cell_at, never_drives, is_free_pin, Slot, SameAt, ResetsWithoutQ, IsOrder, HasNoPath, eqb_same, place_of, row_reads_cell, enable_reads, data_reads, rest_reads, cell_reads, device_lookups, row_reads_if_any, reset_reads, plain_reads, HasNoResetPath}
use Rattle.pld_device.specs.declared.carry.Carry.TheVariants as carry
use Rattle.pld_machine.specs.declared.logic.Slot.TheVariants as slot
use Rattle.pld_machine.proofs.WithoutQ.{AgreeBefore, ReadNoQ, resets_without_q}
use Rattle.pld_order.proofs.PathSteps.{path_from, path_one, path_step}
use Rattle.device_logic.proofs.CellsOrdered.{has_slots, has_pins, in_cells, unset_free, cell_slot, same_cell}
use Rattle.device_logic.proofs.FreeReads.{ReadsFreePins, device_reads_free, rows_free}
use Rattle.device_logic.proofs.ReadCells.{cell_reads-rest, row_reads_cell-pair}
use Rattle.device_logic.proofs.Runs.{one_of}
use Rattle.device_logic.proofs.SameCells.{row_equal, cell_same}

-- no chain of reads leads from the cell to a register
abbrev pub IsClean : Table → List Bool → ℕ → Type 0
IsClean t fuses c = HasNoPath (length t.cells) (plain_reads t fuses) (eqb c) (stores t fuses)

-- the slot is such a cell
abbrev pub IsCleanSlot : Table → List Bool → Slot → Type 0
IsCleanSlot t fuses (slot.Cell c) = IsClean t fuses c
IsCleanSlot t fuses (slot.Node n) = ⊥

-- the slot at a place of the order
slot_at : (cells : List ℕ) (j d : ℕ) → slice_get cells j ≡ Some d → slice_get (map (λ c. slot.Cell c) cells) j ≡ Some (slot.Cell d)
slot_at [] j d found = absurd cc
slot_at (c ∷ cells) zero d found = cc
slot_at (c ∷ cells) (suc j) d found = slot_at cells j d found

module _ (t : Table) (laws : IsDevice t) (fuses : List Bool) (order : List ℕ) (ordered : IsOrder (length t.cells) (cell_reads t fuses) order) where
  free : ReadsFreePins t fuses
  free = device_reads_free t laws fuses

  -- a cell that is read is one of the device
  row_read_in : (row d : ℕ) → row_reads_cell t fuses row d ≡ true → d < length t.cells
  row_read_in row d reads =
      let found = row_reads_cell-pair t fuses row d reads in
      subst (IsPair t) (get_or_from_slice_get t.pairs found.pair (carry.Cell d) (carry.Pin 0) found.carried) (laws.pairs found.pair (carry.Pin 0) (slice_get_within t.pairs found.pair (carry.Cell d) found.carried))

  enable_read_in : (e : Enable) (d : ℕ) → enable_reads t fuses e d ≡ true → d < length t.cells
  enable_read_in (Row row) d reads = row_read_in row d reads
  enable_read_in (PinLow pin) d reads = absurd (true≢false (sym reads))
  enable_read_in Driven d reads = absurd (true≢false (sym reads))
  enable_read_in Released d reads = absurd (true≢false (sym reads))

  read_in : (c d : ℕ) → rest_reads t fuses c d ≡ true → d < length t.cells
  read_in c d reads =
      elim (or_cases (enable_reads t fuses (cell_at t c).enable d) (data_reads t fuses c d) (and_parts (not (never_drives t fuses c)) (enable_reads t fuses (cell_at t c).enable d || data_reads t fuses c d) reads).1) [
        | inl by_enable ↦ enable_read_in (cell_at t c).enable d by_enable
        | inr by_data ↦
            let row = one_of (λ row. row_reads_cell t fuses row d) (cell_at t c).first (cell_at t c).room (and_parts (not (stores t fuses c)) (list_any (λ row. row_reads_cell t fuses row d) (data_rows t c)) by_data).1 in
            row_read_in row.0 d row.3
      ]

  -- a clean cell is combinational, and so is each that it reads clean
  clean_plain : (c : ℕ) → c < length t.cells → IsClean t fuses c → stores t fuses c ≡ false
  clean_plain c within clean =
      elim (cases_Bool (stores t fuses c)) [
        | inl kept ↦ absurd (clean (c ∷ []) (path_one (length t.cells) (plain_reads t fuses) (eqb c) (stores t fuses) c within (eqb_same c) kept))
        | inr plain ↦ plain
      ]

  clean_reads : (c d : ℕ) → c < length t.cells → IsClean t fuses c → rest_reads t fuses c d ≡ true → IsClean t fuses d
  clean_reads c d within clean reads path is =
      clean (c ∷ path) (path_step (length t.cells) (plain_reads t fuses) (eqb c) (stores t fuses) c d path within (eqb_same c) (and_from (not (stores t fuses c)) (rest_reads t fuses c d) (ap not (clean_plain c within clean)) reads) is)

  module _ (a b : Levels) (i : ℕ) (agree : AgreeBefore (device_lookups t fuses order) (IsCleanSlot t fuses) i a b) where
    pins_same : (pin : ℕ) → is_free_pin t pin ≡ true → is_on a.pins pin ≡ is_on b.pins pin
    pins_same pin pin_free = agree.pins pin (unset_free t fuses order free ordered 0 pin pin_free)

    -- a clean cell that precedes place i feeds back the same
    clean_same : (d : ℕ) → d < length t.cells → IsClean t fuses d → ((j : ℕ) → j < length order → get_or order j 0 ≡ d → j < i) → carried t fuses a (carry.Cell d) ≡ carried t fuses b (carry.Cell d)
    clean_same d within clean before =
        let there = place_of order d (ordered.each d within) in
        let found : slice_get order there.0 ≡ Some d = slice_get-get_or order there.0 0 there.1 ∙ ap (λ x. Some x) there.2 in
        rw (clean_plain d within clean) (agree.slots there.0 (slot.Cell d) (before there.0 there.1 there.2) (slot_at order there.0 d found) clean)

  clean_at : (i c : ℕ) → slice_get order i ≡ Some c → IsClean t fuses c → (a b : Levels) → AgreeBefore (device_lookups t fuses order) (IsCleanSlot t fuses) i a b → SameAt (device_lookups t fuses order) (slot.Cell c) a b
  clean_at i c found clean a b agree =
      cell_same t fuses free c a b within (pins_same a b i agree)
      (λ d reads. clean_same a b i agree d (read_in c d reads) (clean_reads c d within clean reads) (before d reads))
      (λ kept. absurd (true≢false (sym kept ∙ clean_plain c within clean)))
    where
      within : c < length t.cells
      within = in_cells t fuses order free ordered i c found

      before : (d : ℕ) → rest_reads t fuses c d ≡ true → (j : ℕ) → j < length order → get_or order j 0 ≡ d → j < i
      before d reads j low here =
          elim (cases_lt j i) [
            | inl less ↦ less
            | inr more ↦
                let waits = cell_reads-rest t fuses c d (clean_plain d (read_in c d reads) (clean_reads c d within clean reads)) reads in
                let none : cell_reads t fuses (get_or order i 0) (get_or order j 0) ≡ false = ordered.earlier i j more low in
                absurd (true≢false (sym waits ∙ (rw (get_or_from_slice_get order i c 0 found, here) at none)))
          ]

  module _ (none : HasNoResetPath t fuses) where
    reset_clean : (d : ℕ) → reset_reads t fuses d ≡ true → IsClean t fuses d
    reset_clean d reads path is = none path (path_from (length t.cells) (plain_reads t fuses) (reset_reads t fuses) (stores t fuses) d path reads is)

    reset_same : (a b : Levels) → AgreeBefore (device_lookups t fuses order) (IsCleanSlot t fuses) (length (device_lookups t fuses order).slots) a b → (reset : Option ℕ) → t.reset ≡ reset → row_if_any t fuses a reset ≡ row_if_any t fuses b reset
    reset_same a b agree None is = refl
    reset_same a b agree (Some row) is =
        row_equal t fuses free 0 a b (pins_same a b (length (device_lookups t fuses order).slots) agree) row (rows_free t laws fuses row)
        (λ d reads. clean_same a b (length (device_lookups t fuses order).slots) agree d (row_read_in row d reads) (reset_clean d (subst (λ r. row_reads_if_any t fuses r d ≡ true) (sym is) reads)) (λ j low here. subst (λ n. j < n) (sym (length-map order (λ c. slot.Cell c))) low))

    reads_no_q : ReadNoQ (device_lookups t fuses order) (IsCleanSlot t fuses)
    reads_no_q = record {
      slots = by_slot;
      resets = λ c register a b agree. reset_same a b agree t.reset refl;
    }
      where
        by_slot : (i : ℕ) (s : Slot) → slice_get (device_lookups t fuses order).slots i ≡ Some s → IsCleanSlot t fuses s → (a b : Levels) → AgreeBefore (device_lookups t fuses order) (IsCleanSlot t fuses) i a b → SameAt (device_lookups t fuses order) s a b
        by_slot i (slot.Cell c) found clean a b agree =
            let here = cell_slot order i (slot.Cell c) found in
            clean_at i c (here.1 ∙ ap (λ x. Some x) (sym (same_cell c here.0 here.2))) clean a b agree
        by_slot i (slot.Node n) found clean a b agree = absurd clean

    pub resets_free : ResetsWithoutQ (device_lookups t fuses order)
    resets_free = resets_without_q (device_lookups t fuses order) (has_pins t fuses order free ordered) (has_slots t fuses order free ordered) (IsCleanSlot t fuses) reads_no_q
