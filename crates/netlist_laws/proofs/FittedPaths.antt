-- No chain of reads of fitted fuses leads from the reset to a register.
use Rattle.std.proofs.Common.{◌≡◌, ℕ, ◌<◌, Bool, true, false, not, ◌&&◌, ◌||◌, eqb, List, [], ◌∷◌, ◌++◌, length, get_or, Option, Some, None, refl, ap, sym, ◌∙◌, subst, arith, inl, inr}
use Rattle.netlist_laws.proofs.Common.{list_any, and_parts, or_cases, or_left, or_right, not-true, true≢false, Enable, Row, PinLow, Driven, Released, Table, cell_at, no_cell, IsDevice, never_drives, data_rows, stores, has, IsChain, eqb_same, Ranked, row_reads_cell, enable_reads, data_reads, rest_reads, reset_in, one_of, Leaf, Formula, names, Wanted, PlainNetlist, wanted_at, shared_function, enable_of, names_if_any, function_names, netlist_waits, signal_count, IsSoundFormula, IsSound, IsFittedEnable, IsFittedShared, IsFittedCell, IsFittedAs, IsFitted}
use Rattle.pld_device.specs.declared.carry.Carry.TheVariants as carry
use Rattle.device_logic.specs.ResetPaths.{row_reads_if_any, plain_reads, HasNoResetPath}
use Rattle.netlist_laws.proofs.CellRanks.{enable_names, wanted_enable_sound, spare_reads}
use Rattle.netlist_laws.proofs.CleanSignals.{IsCleanSignal, Clean, clean_named, clean_closed, reset_known}
use Rattle.netlist_laws.proofs.CoverReads.{leaf_of}
use Rattle.netlist_laws.proofs.ToldRows.{IsTold, told_cell, exact_told, data_told}
use Rattle.netlist_laws.proofs.UnusedRows.{data_row_below}
use Rattle.netlist_laws.proofs.Valuing.{IsKnown, cell_named}
use Rattle.netlist_laws.proofs.WantedCells.{sound_at, registers_wanted}

module _ (t : Table) (laws : IsDevice t) (net : PlainNetlist) (sound : IsSound t net) (fuses : List Bool) (fitted : IsFitted t net fuses) (ranks : Ranked (signal_count t net) (netlist_waits t net)) where
  -- the cell is read by a clean leaf; whether it is can't be reported, so this is all that follows
  abbrev MayBeClean : ℕ → Type 0
  MayBeClean d = (Clean t net (leaf_of t fuses (carry.Cell d)) → ⊥) → ⊥

  by_told : (row d : ℕ) → IsTold t net fuses (Clean t net) row → row_reads_cell t fuses row d ≡ true → MayBeClean d
  by_told row d told reads = told_cell t laws fuses fitted.size net sound ranks (Clean t net) row d told reads

  -- ---- a clean cell

  module _ (c : ℕ) (within : c < length t.cells) (plain : stores t fuses c ≡ false) (clean : IsCleanSignal t net c) where
    module _ (w : Wanted) (is : wanted_at net c ≡ Some w) (cell : IsFittedCell t net fuses c w) where
      enable_known : IsKnown (Clean t net) (enable_of w)
      enable_known l named =
          clean_named t net c l (omega (arith, within)) clean (wanted_enable_sound t net c w (sound_at t net sound c w is) l named)
          (rw (cell_named t net c l within, is) (or_left (names_if_any w.enable l) (not w.registered && function_names w.function l) (enable_names w.enable l named)))

      combinational : w.registered ≡ false
      combinational = sym (registers_wanted t net fuses sound c w is cell) ∙ plain

      function_known : (f : Formula) → IsSoundFormula t net f → ((l : Leaf) → names f l ≡ true → function_names w.function l ≡ true) → IsKnown (Clean t net) f
      function_known f readable part l named =
          clean_named t net c l (omega (arith, within)) clean (readable l named)
          (rw (cell_named t net c l within, is) (or_right (names_if_any w.enable l) (not w.registered && function_names w.function l) (rw (combinational, part l named) refl)))

      by_enable : (e : Enable) (d : ℕ) → (cell_at t c).enable ≡ e → IsFittedEnable t net fuses (enable_of w) e → enable_reads t fuses e d ≡ true → MayBeClean d
      by_enable (Row row) d at exact reads =
          by_told row d
          (exact_told t laws fuses fitted.size net sound ranks (Clean t net) (clean_closed t net sound) row (enable_of w) ((laws.cells c no_cell within).enable_below row at) (wanted_enable_sound t net c w (sound_at t net sound c w is)) enable_known exact)
          reads
      by_enable (PinLow pin) d at exact reads = absurd (true≢false (sym reads))
      by_enable Driven d at exact reads = absurd (true≢false (sym reads))
      by_enable Released d at exact reads = absurd (true≢false (sym reads))

      by_data : (d : ℕ) → data_reads t fuses c d ≡ true → MayBeClean d
      by_data d reads =
          let parts = and_parts (not (stores t fuses c)) (list_any (λ row. row_reads_cell t fuses row d) (data_rows t c)) reads in
          let row = one_of (λ row. row_reads_cell t fuses row d) (cell_at t c).first (cell_at t c).room parts.1 in
          let law = (sound_at t net sound c w is).law in
          by_told row.0 d
          (data_told t laws fuses fitted.size net sound ranks (Clean t net) (clean_closed t net sound) c row.0 w (data_row_below t laws c row.0 within (row.1, row.2)) (row.1, row.2) law.function
          (function_known w.function.one law.function.one (λ l named. or_left (names w.function.one l) (names w.function.any l) named))
          (function_known w.function.any law.function.any (λ l named. or_right (names w.function.one l) (names w.function.any l) named))
          cell)
          row.3

    next_as : (found : Option Wanted) → wanted_at net c ≡ found → IsFittedAs t net fuses c found → (d : ℕ) → rest_reads t fuses c d ≡ true → MayBeClean d
    next_as None is spare d reads = absurd (spare_reads t laws net sound fuses fitted c d within spare reads)
    next_as (Some w) is cell d reads =
        let parts = and_parts (not (never_drives t fuses c)) (enable_reads t fuses (cell_at t c).enable d || data_reads t fuses c d) reads in
        elim (or_cases (enable_reads t fuses (cell_at t c).enable d) (data_reads t fuses c d) parts.1) [
          | inl enable ↦ by_enable w is cell (cell_at t c).enable d refl cell.enable enable
          | inr data_row ↦ by_data w is cell d data_row
        ]

  -- ---- along a path

  -- a register isn't read by a clean leaf
  register_unclean : (d : ℕ) → stores t fuses d ≡ true → Clean t net (leaf_of t fuses (carry.Cell d)) → ⊥
  register_unclean d kept = rw kept (λ clean. clean)

  signal_clean : (d : ℕ) → d < length t.cells → stores t fuses d ≡ false → Clean t net (leaf_of t fuses (carry.Cell d)) → IsCleanSignal t net d
  signal_clean d within plain = rw plain (λ clean. clean d within refl)

  -- no chain leads from such a cell to a register
  none_leads : (before : List ℕ) (last : ℕ) → ((v : ℕ) → has (before ++ last ∷ []) v ≡ true → v < length t.cells) → IsChain (plain_reads t fuses) before last → stores t fuses last ≡ true → MayBeClean (get_or before 0 last) → ⊥
  none_leads [] last inside leads kept may = may (register_unclean last kept)
  none_leads (v ∷ rest) last inside leads kept may =
      let parts = and_parts (not (stores t fuses v)) (rest_reads t fuses v (get_or rest 0 last)) leads.0 in
      let plain = not-true (stores t fuses v) parts.0 in
      let v_in = inside v (or_left (eqb v v) (has (rest ++ last ∷ []) v) (eqb_same v)) in
      may
      (λ clean. none_leads rest last (λ x later. inside x (or_right (eqb x v) (has (rest ++ last ∷ []) x) later)) leads.1 kept
      (next_as v v_in plain (signal_clean v v_in plain clean) (wanted_at net v) refl (fitted.cells v v_in) (get_or rest 0 last) parts.1))

  -- ---- the reset

  reset_told : (row : ℕ) → t.reset ≡ Some row → IsTold t net fuses (Clean t net) row
  reset_told row at =
      exact_told t laws fuses fitted.size net sound ranks (Clean t net) (clean_closed t net sound) row (shared_function (λ (w : Wanted). w.reset) net) (reset_in t laws row at)
      (λ l named. (reset_known t net sound l named).0) (λ l named. (reset_known t net sound l named).1)
      (subst (IsFittedShared t net fuses (shared_function (λ (w : Wanted). w.reset) net)) at fitted.reset)

  reset_clean : (d : ℕ) (reset : Option ℕ) → t.reset ≡ reset → row_reads_if_any t fuses reset d ≡ true → MayBeClean d
  reset_clean d None is reads = absurd (true≢false (sym reads))
  reset_clean d (Some row) is reads = by_told row d (reset_told row is) reads

  first_of : (before : List ℕ) (last : ℕ) → get_or (before ++ last ∷ []) 0 0 ≡ get_or before 0 last
  first_of [] last = refl
  first_of (v ∷ rest) last = refl

  pub fitted_no_path : HasNoResetPath t fuses
  fitted_no_path path is =
      none_leads is.before is.last (λ v found. is.inside v (subst (λ p. has p v ≡ true) (sym is.is) found)) is.leads is.arrives
      (subst MayBeClean (ap (λ p. get_or p 0 0) is.is ∙ first_of is.before is.last) (reset_clean (get_or path 0 0) t.reset refl is.begins))
