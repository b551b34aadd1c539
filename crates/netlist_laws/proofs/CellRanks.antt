-- Fitted cells read only cells of lower rank among the netlist's signals, so none reads itself through others.
use Rattle.std.proofs.Common.{◌≡◌, ℕ, ◌+◌, ◌<◌, ◌≤◌, Bool, true, false, not, ◌&&◌, ◌||◌, List, length, Option, Some, None, refl, ap, sym, ◌∙◌, arith, inl, inr, unwrap_or}
use Rattle.netlist_laws.proofs.Common.{list_any, cases_lt, and_parts, or_cases, or_left, or_right, true≢false, not-true, Enable, Row, PinLow, Driven, Released, Table, cell_at, no_cell, IsDevice, enables_never, never_drives, data_rows, stores, HasNoLoop, row_reads_cell, enable_reads, data_reads, rest_reads, cell_reads, one_of, Leaf, Formula, Const, names, Wanted, PlainNetlist, node_at, wanted_at, enable_of, names_if_any, function_names, cell_names, netlist_names, netlist_waits, signal_count, IsReadable, IsSoundFormula, IsSound, IsFittedEnable, IsFittedCell, IsSpareCell, IsFittedAs, IsFitted, Ranked, no_loop_by_rank}
use Rattle.pld_device.specs.declared.carry.Carry.TheVariants as carry
use Rattle.bit_expr.specs.declared.node.Leaf.TheVariants as leaf
use Rattle.netlist_laws.proofs.Valuing.{IsKnown, IsClosed, node_names, waits_for_node, cell_named, node_sound}
use Rattle.netlist_laws.proofs.SignalLeaves.{waits_for_pin}
use Rattle.netlist_laws.proofs.WantedCells.{IsSoundAt, sound_at, registers_wanted}
use Rattle.netlist_laws.proofs.CoverReads.{leaf_of}
use Rattle.netlist_laws.proofs.UnusedRows.{unused_never, data_row_below}
use Rattle.netlist_laws.proofs.ToldRows.{IsTold, told_cell, exact_told, data_told}
use Rattle.device_logic.proofs.ReadCells.{row_reads_cell-pair}
use Rattle.pld_device.specs.Reads.{is_never_true, connected_pairs}
use Rattle.pld_device.specs.Rows.{row_fuses}
use Rattle.pld_base.specs.Bits.{is_on}

-- the leaves of an enable
pub enable_names : (e : Option Formula) (l : Leaf) → names (unwrap_or e (Const true)) l ≡ true → names_if_any e l ≡ true
enable_names None l named = named
enable_names (Some f) l named = named

enable_sound : (t : Table) (net : PlainNetlist) (e : Option Formula) → ((f : Formula) → e ≡ Some f → IsSoundFormula t net f) → IsSoundFormula t net (unwrap_or e (Const true))
enable_sound t net None each = λ l named. absurd (true≢false (sym named))
enable_sound t net (Some f) each = each f refl

pub wanted_enable_sound : (t : Table) (net : PlainNetlist) (c : ℕ) (w : Wanted) → IsSoundAt t net c w → IsSoundFormula t net (enable_of w)
wanted_enable_sound t net c w is = enable_sound t net w.enable is.law.enable

module _ (t : Table) (laws : IsDevice t) (net : PlainNetlist) (sound : IsSound t net) (fuses : List Bool) (fitted : IsFitted t net fuses) where
  -- a cell that is assigned nothing reads none
  pub spare_reads : (c d : ℕ) → c < length t.cells → IsSpareCell t fuses c → rest_reads t fuses c d ≡ true → ⊥
  spare_reads c d within spare reads =
      let parts = and_parts (not (never_drives t fuses c)) (enable_reads t fuses (cell_at t c).enable d || data_reads t fuses c d) reads in
      by_enable (cell_at t c).enable refl parts.0 parts.1
    where
      by_enable : (e : Enable) → (cell_at t c).enable ≡ e → not (enables_never t fuses e) ≡ true → (enable_reads t fuses e d || data_reads t fuses c d) ≡ true → ⊥
      by_enable (Row row) is drives some =
          let never = unused_never t laws fuses fitted.size row ((laws.cells c no_cell within).enable_below row is) (spare.enable row is) in
          true≢false (sym drives ∙ ap not never)
      by_enable (PinLow pin) is drives some =
          let kind = (laws.cells c no_cell within).pin_registers pin is in
          let kept : stores t fuses c ≡ true = rw kind refl in
          let off : data_reads t fuses c d ≡ false = rw kept refl in
          true≢false (sym some ∙ off)
      by_enable Driven is drives some =
          let parts = and_parts (not (stores t fuses c)) (list_any (λ row. row_reads_cell t fuses row d) (data_rows t c)) some in
          let row = one_of (λ row. row_reads_cell t fuses row d) (cell_at t c).first (cell_at t c).room parts.1 in
          let never = unused_never t laws fuses fitted.size row.0 (data_row_below t laws c row.0 within (row.1, row.2)) (spare.rows row.0 (row.1, row.2)) in
          let found = row_reads_cell-pair t fuses row.0 d row.3 in
          let live = and_parts (not (is_never_true t fuses row.0)) (is_on (connected_pairs (row_fuses t fuses row.0)) found.pair) found.reads in
          true≢false (sym live.0 ∙ ap not never)
      by_enable Released is drives some = true≢false (sym drives)

  module _ (ranks : Ranked (signal_count t net) (netlist_waits t net)) where
    -- leaves of signals below a rank
    abbrev Below : ℕ → Leaf → Type 0
    Below top (leaf.Pin pin) = (d : ℕ) → d < length t.cells → (cell_at t d).pin ≡ pin → ranks.rank d < top
    Below top (leaf.Q c) = Unit {0}
    Below top (leaf.Node n) = ranks.rank (length t.cells + n) < top

    below_more : (low high : ℕ) (l : Leaf) → low ≤ high → Below low l → Below high l
    below_more low high (leaf.Pin pin) le below = λ d d_in same. let less = below d d_in same in omega (arith, less, le)
    below_more low high (leaf.Q c) le below = tt
    below_more low high (leaf.Node n) le below = omega (arith, below, le)

    -- what a signal names is below it
    named_below : (v : ℕ) (l : Leaf) → v < signal_count t net → IsReadable t net l → netlist_names t net v l ≡ true → Below (ranks.rank v) l
    named_below v (leaf.Pin pin) v_in readable named = λ d d_in same.
        ranks.falls v d v_in (omega (arith, d_in)) (waits_for_pin t net v d pin d_in same (readable.1 d d_in same) named)
    named_below v (leaf.Q c) v_in readable named = tt
    named_below v (leaf.Node n) v_in readable named =
        ranks.falls v (length t.cells + n) v_in (omega (arith, readable)) (waits_for_node t net v n named)

    closed : (top : ℕ) → IsClosed net (Below top)
    closed top n n_in below l named =
        below_more (ranks.rank (length t.cells + n)) top l (omega (arith, below))
        (named_below (length t.cells + n) l (omega (arith, n_in)) ((node_sound t net sound ranks n n_in).one l named)
        (rw (node_names t net n l) (or_left (names (node_at net n).one l) (names (node_at net n).any l) named)))

    module _ (c : ℕ) (within : c < length t.cells) (w : Wanted) (is : wanted_at net c ≡ Some w) (cell : IsFittedCell t net fuses c w) where
      cell_below : (l : Leaf) → IsReadable t net l → cell_names (Some w) l ≡ true → Below (ranks.rank c) l
      cell_below l readable named = named_below c l (omega (arith, within)) readable (rw (cell_named t net c l within, is) named)

      enable_known : IsKnown (Below (ranks.rank c)) (enable_of w)
      enable_known l named = cell_below l (wanted_enable_sound t net c w (sound_at t net sound c w is) l named)
          (or_left (names_if_any w.enable l) (not w.registered && function_names w.function l) (enable_names w.enable l named))

      function_known : w.registered ≡ false → (f : Formula) → IsSoundFormula t net f → ((l : Leaf) → names f l ≡ true → function_names w.function l ≡ true) → IsKnown (Below (ranks.rank c)) f
      function_known plain f readable part l named = cell_below l (readable l named)
          (or_right (names_if_any w.enable l) (not w.registered && function_names w.function l) (rw (plain, part l named) refl))

      by_row : (row d : ℕ) → d < length t.cells → stores t fuses d ≡ false → IsTold t net fuses (Below (ranks.rank c)) row → row_reads_cell t fuses row d ≡ true → ranks.rank d < ranks.rank c
      by_row row d d_in plain told reads =
          elim (cases_lt (ranks.rank d) (ranks.rank c)) [
            | inl less ↦ less
            | inr more ↦ absurd (told_cell t laws fuses fitted.size net sound ranks (Below (ranks.rank c)) row d told reads (above more))
          ]
        where
          above : ranks.rank c ≤ ranks.rank d → Below (ranks.rank c) (leaf_of t fuses (carry.Cell d)) → ⊥
          above more = rw plain (λ below. let less = below d d_in refl in omega (arith, less, more))

      by_enable : (e : Enable) (d : ℕ) → d < length t.cells → stores t fuses d ≡ false → (cell_at t c).enable ≡ e → IsFittedEnable t net fuses (enable_of w) e → enable_reads t fuses e d ≡ true → ranks.rank d < ranks.rank c
      by_enable (Row row) d d_in plain at exact reads =
          by_row row d d_in plain
          (exact_told t laws fuses fitted.size net sound ranks (Below (ranks.rank c)) (closed (ranks.rank c)) row (enable_of w) ((laws.cells c no_cell within).enable_below row at) (wanted_enable_sound t net c w (sound_at t net sound c w is)) enable_known exact)
          reads
      by_enable (PinLow pin) d d_in plain at exact reads = absurd (true≢false (sym reads))
      by_enable Driven d d_in plain at exact reads = absurd (true≢false (sym reads))
      by_enable Released d d_in plain at exact reads = absurd (true≢false (sym reads))

      by_data : (d : ℕ) → d < length t.cells → stores t fuses d ≡ false → data_reads t fuses c d ≡ true → ranks.rank d < ranks.rank c
      by_data d d_in d_plain reads =
          let parts = and_parts (not (stores t fuses c)) (list_any (λ row. row_reads_cell t fuses row d) (data_rows t c)) reads in
          let plain : w.registered ≡ false = sym (registers_wanted t net fuses sound c w is cell) ∙ not-true (stores t fuses c) parts.0 in
          let row = one_of (λ row. row_reads_cell t fuses row d) (cell_at t c).first (cell_at t c).room parts.1 in
          let law = (sound_at t net sound c w is).law in
          by_row row.0 d d_in d_plain
          (data_told t laws fuses fitted.size net sound ranks (Below (ranks.rank c)) (closed (ranks.rank c)) c row.0 w (data_row_below t laws c row.0 within (row.1, row.2)) (row.1, row.2) law.function
          (function_known plain w.function.one law.function.one (λ l named. or_left (names w.function.one l) (names w.function.any l) named))
          (function_known plain w.function.any law.function.any (λ l named. or_right (names w.function.one l) (names w.function.any l) named))
          cell)
          row.3

    cell_falls : (c d : ℕ) → c < length t.cells → d < length t.cells → (found : Option Wanted) → wanted_at net c ≡ found → IsFittedAs t net fuses c found → cell_reads t fuses c d ≡ true → ranks.rank d < ranks.rank c
    cell_falls c d c_in d_in None is spare reads =
        absurd (spare_reads c d c_in spare (and_parts (not (stores t fuses d)) (rest_reads t fuses c d) reads).1)
    cell_falls c d c_in d_in (Some w) is cell reads =
        let both = and_parts (not (stores t fuses d)) (rest_reads t fuses c d) reads in
        let plain = not-true (stores t fuses d) both.0 in
        let parts = and_parts (not (never_drives t fuses c)) (enable_reads t fuses (cell_at t c).enable d || data_reads t fuses c d) both.1 in
        elim (or_cases (enable_reads t fuses (cell_at t c).enable d) (data_reads t fuses c d) parts.1) [
          | inl enable ↦ by_enable c c_in w is cell (cell_at t c).enable d d_in plain refl cell.enable enable
          | inr data_row ↦ by_data c c_in w is cell d d_in plain data_row
        ]

    -- no chain of reads of the fuses returns
    pub fitted_no_loop : HasNoLoop (length t.cells) (cell_reads t fuses)
    fitted_no_loop = no_loop_by_rank (length t.cells) (cell_reads t fuses) ranks.rank (λ c d c_in d_in reads. cell_falls c d c_in d_in (wanted_at net c) refl (fitted.cells c c_in) reads)
