-- A device whose cells wait for no other has no loop of reads, and so one point at rest and one run.
use Rattle.std.proofs.Common.{◌≡◌, ℕ, ◌<◌, Bool, true, false, not, ◌||◌, ◌==◌, List, [], ◌∷◌, length, refl, sym, ◌∙◌, inl, inr}
use Rattle.device_logic.proofs.Common.{list_any, eq-eqb, or_cases, or_left, and_parts, true≢false, not-true, Enable, Row, PinLow, Driven, Released, Table, cell_at, stores, never_drives, ReadsGiven, EnableReadsGiven, IsOneLayer, data_rows, device_logic, IsDetermined, has, HasNoLoop, row_reads_cell, enable_reads, data_reads, rest_reads, cell_reads}
use Rattle.pld_device.specs.declared.carry.Carry.TheVariants as carry
use Rattle.device_logic.proofs.FreeReads.{layer_reads_free}
use Rattle.device_logic.proofs.CellsOrdered.{is_ordered, determined}
use Rattle.device_logic.proofs.ReadCells.{row_reads_cell-pair}
use Rattle.device_logic.proofs.Runs.{one_of}
use Rattle.device_logic.proofs.OneRun.{order_of, resets_by_none}

-- a list has its first
has_first : (c : ℕ) (rest : List ℕ) → has (c ∷ rest) c ≡ true
has_first c rest = or_left (c == c) (has rest c) (eq-eqb c c refl)

module _ (t : Table) (fuses : List Bool) (layer : IsOneLayer t fuses) where
  -- a combinational cell that a row of given values reads never drives its pin
  row_reads_given : (row d : ℕ) → ReadsGiven t fuses row → stores t fuses d ≡ false → row_reads_cell t fuses row d ≡ true → never_drives t fuses d ≡ true
  row_reads_given row d given plain reads =
      let found = row_reads_cell-pair t fuses row d reads in
      elim (or_cases (stores t fuses d) (never_drives t fuses d) (given found.pair (carry.Cell d) found.reads found.carried)) [
        | inl kept ↦ absurd (true≢false (sym kept ∙ plain))
        | inr never ↦ never
      ]

  enable_reads_given : (e : Enable) (d : ℕ) → EnableReadsGiven t fuses e → stores t fuses d ≡ false → enable_reads t fuses e d ≡ true → never_drives t fuses d ≡ true
  enable_reads_given (Row row) d given plain reads = row_reads_given row d given plain reads
  enable_reads_given (PinLow pin) d given plain reads = absurd (true≢false (sym reads))
  enable_reads_given Driven d given plain reads = absurd (true≢false (sym reads))
  enable_reads_given Released d given plain reads = absurd (true≢false (sym reads))

  -- a cell that waits reads, and is waited for at its level
  waits : (c d : ℕ) → cell_reads t fuses c d ≡ true → (stores t fuses d ≡ false) × (rest_reads t fuses c d ≡ true)
  waits c d reads = let parts = and_parts (not (stores t fuses d)) (rest_reads t fuses c d) reads in (not-true (stores t fuses d) parts.0, parts.1)

  -- a cell that reads may drive its pin, and one that is waited for never does
  reader_drives : (c d : ℕ) → cell_reads t fuses c d ≡ true → never_drives t fuses c ≡ false
  reader_drives c d reads = not-true (never_drives t fuses c) (and_parts (not (never_drives t fuses c)) (enable_reads t fuses (cell_at t c).enable d || data_reads t fuses c d) (waits c d reads).1).0

  read_never_drives : (c d : ℕ) → c < length t.cells → cell_reads t fuses c d ≡ true → never_drives t fuses d ≡ true
  read_never_drives c d within reads =
      let plain = (waits c d reads).0 in
      elim (or_cases (enable_reads t fuses (cell_at t c).enable d) (data_reads t fuses c d) (and_parts (not (never_drives t fuses c)) (enable_reads t fuses (cell_at t c).enable d || data_reads t fuses c d) (waits c d reads).1).1) [
        | inl by_enable ↦ enable_reads_given (cell_at t c).enable d (layer.enables c within) plain by_enable
        | inr by_data ↦
            let parts = and_parts (not (stores t fuses c)) (list_any (λ row. row_reads_cell t fuses row d) (data_rows t c)) by_data in
            let row = one_of (λ row. row_reads_cell t fuses row d) (cell_at t c).first (cell_at t c).room parts.1 in
            row_reads_given row.0 d (layer.data_rows c row.0 within (reader_drives c d reads) (row.1, row.2)) plain row.3
      ]

  -- no cell reads and is read
  never_both : (c d e : ℕ) → c < length t.cells → cell_reads t fuses c d ≡ true → cell_reads t fuses d e ≡ true → ⊥
  never_both c d e within reads also = true≢false (sym (read_never_drives c d within reads) ∙ reader_drives d e also)

  pub no_loop : HasNoLoop (length t.cells) (cell_reads t fuses)
  no_loop [] is = is.some refl
  no_loop (c ∷ []) is = never_both c c c (is.inside c (has_first c [])) is.returns.0 is.returns.0
  no_loop (c ∷ d ∷ []) is = never_both c d c (is.inside c (has_first c (d ∷ []))) is.returns.0 is.returns.1.0
  no_loop (c ∷ d ∷ e ∷ rest) is = never_both c d e (is.inside c (has_first c (d ∷ e ∷ rest))) is.returns.0 is.returns.1.0

  -- it settles, steps and runs in exactly one way
  pub layer_determined : IsDetermined (device_logic t fuses)
  layer_determined =
      let order = order_of t fuses no_loop in
      determined t fuses order.0 (is_ordered t fuses order.0 (layer_reads_free t fuses layer) order.1 (resets_by_none t fuses order.0 layer.no_reset))
