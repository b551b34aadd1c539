-- A decompiled source has no loop, and no reset reads a register, as its fuses have none: each signal reads no more than its
-- cell does.
use Rattle.std.proofs.Common.{◌≡◌, ℕ, ◌<◌, inl, inr, Bool, true, false, not, if◌then◌else◌, Option, Some, None, List, [], ◌∷◌, length, filter, map, refl, sym, ap, subst, ◌∙◌, arith, eqb-true, ◌==◌, ◌||◌}
use Rattle.decompiler.proofs.Common.{AllByRecursion, list_any, and_from, and_parts, and_right, cases_Bool, or_cases, or_left, or_right, true≢false, HasNoLoop, Enable, Row, PinLow, Driven, Released, IsDevice, data_rows, stores, Table, cell_at, no_cell, reset_in, Leaf, Formula, Const, names, cell_reads, data_reads, enable_reads, rest_reads, row_reads_cell, HasNoResetPath, plain_reads, reset_reads, row_reads_if_any, ModuleTree, control_of, is_the_control, Design, design_of, name_at, formulas, Function, function_of, HasNoSignalLoop, HasNoSignalPath, function_names, given_formulas, is_one_of, is_stored_signal, names_if_any, reset_equation_reads, settles, signal_names, signal_reads, leaf_of_signal, SumLine, IsSourceTree, is_control_line, line_gives, sum_formula, control_line, control_products, data_line, enable_lines, first_register, lines_of, source_of, shared_formula, HasRowSizes, leaf_of, signal_of, none_passes, given_is}
use Rattle.pld_device.specs.Given.{never_drives}
use Rattle.abel_tree.specs.declared.words.Extension.TheVariants as extension
use Rattle.abel_meaning.specs.Contributions.{Contribution}
use Rattle.decompiled.proofs.OneLine.{says}
use Rattle.decompiled.proofs.RowSizes.{row_size}
use Rattle.decompiled.specs.OwnLines.{HasOwnLines}
use Rattle.decompiled.proofs.CellLines.{have}
use Rattle.decompiled.proofs.AssignedPins.{own}
use Rattle.decompiled.proofs.SharedRows.{HasOne, Resets, controls}
use Rattle.decompiler.proofs.OwnLines.{IsForm, IsOwnLine, LineForm, DataForm, EnableForm, ResetForm, PresetForm, own_lines}
use Rattle.decompiler.proofs.Mapped.{no_loop, no_path}
use Rattle.decompiler.proofs.NamedColumns.{control_reads_it, data_read_it, sum_named}
use Rattle.decompiler.proofs.SignalCells.{IsOn, IsSettled, cell_leaf, cell_of_signal, on_apart, on_inside, on_stored, read, settled}

filter_none : {A : Type 0} (P : A → Type 0) (test : A → Bool) → ((x : A) → P x → test x ≡ false) → (xs : List A) → AllByRecursion P xs → filter test xs ≡ []
filter_none P test none [] all = refl
filter_none P test none (x ∷ xs) all = rw (none x all.0) (filter_none P test none xs all.1)

module _ (t : Table) (fuses : List Bool) (laws : IsDevice t) (long : length fuses ≡ t.fuses) (m : ModuleTree) (is : IsSourceTree (source_of t fuses) m) where
  abbrev d : Design
  d = design_of t m

  abbrev cs : List (Contribution Formula)
  cs = given_formulas d

  abbrev signal : ℕ → ℕ
  signal = signal_of t fuses

  abbrev signal_at : ℕ → ℕ
  signal_at c = signal (cell_at t c).pin

  abbrev f : ℕ → ℕ
  f s = cell_of_signal t fuses laws m is s

  abbrev leaf_at : ℕ → Leaf
  leaf_at c = cell_leaf t fuses laws m is c

  sizes : HasRowSizes t fuses
  sizes row within = row_size t fuses row laws long within ∙ sym laws.sizes.columns_even

  -- ---- what a signal reads

  module _ (s r : ℕ) (from : IsSettled t fuses laws m is s) (to : IsOn t fuses laws m is r) where
    abbrev c : ℕ
    c = from.on.cell

    abbrev e : ℕ
    e = to.cell

    own_lines_here : HasOwnLines t fuses signal c
    own_lines_here = have t fuses signal c from.on.within (own t fuses laws m is c from.on.within from.on.declared)

    function_is : function_of (formulas d.context) cs (signal_at c) ≡ record { one = sum_formula (leaf_of t) (data_line t fuses c).products; any = Const false; complement = (data_line t fuses c).negated }
    function_is =
        ap (λ (gs : List (Contribution Formula)). function_of (formulas d.context) gs (signal_at c)) (given_is t fuses laws m is)
        ∙ (says d.context signal (leaf_of t) (lines_of t fuses) (signal_at c)).function (data_line t fuses c)
        (own_lines_here.data_is ∙ (rw from.has refl))

    abbrev control : Option Formula
    control = control_of (formulas d.context) cs (signal_at c) extension.Oe

    abbrev given_control : Option Formula
    given_control = control_of (formulas d.context) (map (line_gives signal (leaf_of t)) (lines_of t fuses)) (signal_at c) extension.Oe

    control_given : control ≡ given_control
    control_given = ap (λ (gs : List (Contribution Formula)). control_of (formulas d.context) gs (signal_at c) extension.Oe) (given_is t fuses laws m is)

    enable_is : filter (is_control_line signal (signal_at c) extension.Oe) (lines_of t fuses) ≡ enable_lines t fuses c (cell_at t c).enable
    enable_is = own_lines_here.enable_is ∙ (rw from.has refl)

    function_reads : function_names (function_of (formulas d.context) cs (signal_at c)) (leaf_at e) ≡ true → data_reads t fuses c e ≡ true
    function_reads named =
        and_from (not (stores t fuses c)) (list_any (λ row. row_reads_cell t fuses row e) (data_rows t c)) (ap not from.plain)
        (data_read_it t fuses laws sizes e to.within c from.on.within (sum_named (leaf_at e) (leaf_of t) (data_line t fuses c).products one_named))
      where
        one_named : names (sum_formula (leaf_of t) (data_line t fuses c).products) (leaf_at e) ≡ true
        one_named = elim (or_cases (names (sum_formula (leaf_of t) (data_line t fuses c).products) (leaf_at e)) false (sym (ap (λ (g : Function Formula). function_names g (leaf_at e)) function_is) ∙ named)) [
          | inl yes_named ↦ yes_named
          | inr never ↦ absurd (true≢false (sym never))
        ]

    control_reads : names_if_any control (leaf_at e) ≡ true → enable_reads t fuses (cell_at t c).enable e ≡ true
    control_reads named = by_enable (cell_at t c).enable refl
      where
        -- without a line nothing is named
        unsaid : (x : Enable) → (cell_at t c).enable ≡ x → enable_lines t fuses c x ≡ [] → ⊥
        unsaid x has none =
            let told = says d.context signal (leaf_of t) (lines_of t fuses) (signal_at c) in
            let absent = told.no_control extension.Oe (enable_is ∙ ap (enable_lines t fuses c) has ∙ none) in
            true≢false (sym (sym (ap (λ (o : Option Formula). names_if_any o (leaf_at e)) (control_given ∙ absent)) ∙ named))

        by_enable : (x : Enable) → (cell_at t c).enable ≡ x → enable_reads t fuses x e ≡ true
        by_enable (Row row) has =
            control_reads_it t fuses laws sizes e to.within row ((laws.cells c no_cell from.on.within).enable_below row has)
            (sum_named (leaf_at e) (leaf_of t) (control_products t fuses row) (sym (ap (λ (o : Option Formula). names_if_any o (leaf_at e)) (control_given ∙ row_control)) ∙ named))
          where
            row_control : given_control ≡ Some (sum_formula (leaf_of t) (control_products t fuses row))
            row_control =
                (says d.context signal (leaf_of t) (lines_of t fuses) (signal_at c)).control extension.Oe (control_line t fuses c extension.Oe row) refl
                (enable_is ∙ ap (enable_lines t fuses c) has)
        by_enable (PinLow pin) has = absurd (unsaid (PinLow pin) has refl)
        by_enable Driven has = absurd (unsaid Driven has refl)
        by_enable Released has = absurd (unsaid Released has refl)

    -- its cell reads the cell of what it reads
    cell_rest_reads : signal_names d.context cs s (leaf_at e) ≡ true → rest_reads t fuses c e ≡ true
    cell_rest_reads named =
        and_from (not (never_drives t fuses c)) (enable_reads t fuses (cell_at t c).enable e || data_reads t fuses c e)
        (sym (ap (λ (b : Bool). b || not (never_drives t fuses c)) from.plain) ∙ from.has)
        (
        elim (
        or_cases (function_names (function_of (formulas d.context) cs (signal_at c)) (leaf_at e)) (names_if_any control (leaf_at e))
        (sym (ap (λ (i : ℕ). signal_names d.context cs i (leaf_at e)) from.on.at) ∙ named)
        ) [
          | inl function ↦ or_right (enable_reads t fuses (cell_at t c).enable e) (data_reads t fuses c e) (function_reads function)
          | inr enable ↦ or_left (enable_reads t fuses (cell_at t c).enable e) (data_reads t fuses c e) (control_reads enable)
        ]
        )

  -- a signal that settles reads one on a cell, as the cells do
  record AreReads (s r : ℕ) : Type 0 where
    pub from : IsSettled t fuses laws m is s
    pub to : IsOn t fuses laws m is r
    pub rest : rest_reads t fuses (f s) (f r) ≡ true

  are_reads : (s r : ℕ) → signal_reads d s r ≡ true → AreReads s r
  are_reads s r reads =
      let parts = and_parts (settles (name_at d.context s)) (is_one_of (signal_names d.context cs s) (leaf_of_signal d.context r)) reads in
      let from = settled t fuses laws m is s parts.0 in
      let to = read t fuses laws m is r (signal_names d.context cs s) parts.1 in
      record {
        from = from;
        to = to.on;
        rest = ap (λ (i : ℕ). rest_reads t fuses i (f r)) from.on.found ∙ ap (rest_reads t fuses from.on.cell) to.on.found
            ∙ cell_rest_reads s r from to.on to.leaf_named;
      }

  -- ---- loops

  plain_at : (s : ℕ) (from : IsSettled t fuses laws m is s) → not (stores t fuses (f s)) ≡ true
  plain_at s from = ap (λ (i : ℕ). not (stores t fuses i)) from.on.found ∙ ap not from.plain

  pub no_signal_loop : HasNoLoop (length t.cells) (cell_reads t fuses) → HasNoSignalLoop d
  no_signal_loop none =
      no_loop (length d.context.names) (length t.cells) (signal_reads d) (cell_reads t fuses) f (IsSettled t fuses laws m is) (λ s from. on_inside t fuses laws m is s from.on)
      (λ s r reads. (are_reads s r reads).from)
      (λ s r reads to. and_from (not (stores t fuses (f r))) (rest_reads t fuses (f s) (f r)) (plain_at r to) (are_reads s r reads).rest)
      (λ s r a b same. on_apart t fuses laws m is s r a.on b.on same) none

  -- ---- resets

  module _ (s : ℕ) where
    abbrev reset : Option Formula
    reset = control_of (formulas d.context) (map (line_gives signal (leaf_of t)) (lines_of t fuses)) s extension.Ar

    reset_given : control_of (formulas d.context) cs s extension.Ar ≡ reset
    reset_given = ap (λ (gs : List (Contribution Formula)). control_of (formulas d.context) gs s extension.Ar) (given_is t fuses laws m is)

    -- without a register no line is a reset
    no_reset : first_register t fuses ≡ None → reset ≡ None
    no_reset none =
        (says d.context signal (leaf_of t) (lines_of t fuses) s).no_control extension.Ar
        (filter_none (IsOwnLine t fuses) (is_control_line signal s extension.Ar) fails (lines_of t fuses) (own_lines t fuses laws))
      where
        by_form : (l : SumLine) (own : IsOwnLine t fuses l) → (form : LineForm) → IsForm t fuses form own.cell l → is_the_control extension.Ar l.extension ≡ false
        by_form l own DataForm is_line = ap (λ (k : SumLine). is_the_control extension.Ar k.extension) is_line ∙ by_kind (stores t fuses own.cell)
          where
            by_kind : (b : Bool) → is_the_control extension.Ar (if b then Some extension.D else None) ≡ false
            by_kind true = refl
            by_kind false = refl
        by_form l own EnableForm is_line = ap (λ (k : SumLine). is_the_control extension.Ar k.extension) is_line.2
        by_form l own ResetForm is_line =
            absurd (true≢false (sym is_line.2 ∙ none_passes (stores t fuses) 0 (length t.cells) own.cell none (omega arith) (omega (arith, own.within))))
        by_form l own PresetForm is_line = ap (λ (k : SumLine). is_the_control extension.Ar k.extension) is_line.3

        fails : (l : SumLine) → IsOwnLine t fuses l → is_control_line signal s extension.Ar l ≡ false
        fails l own = and_right (signal l.pin == s) (is_the_control extension.Ar l.extension) (by_form l own own.form own.is)

    none_named : (l : Leaf) → reset ≡ None → names_if_any reset l ≡ true → ⊥
    none_named l none named = true≢false (sym (sym (ap (λ (o : Option Formula). names_if_any o l) none) ∙ named))

    reset_row_reads : (e : ℕ) → e < length t.cells → names_if_any reset (leaf_at e) ≡ true → reset_reads t fuses e ≡ true
    reset_row_reads e within named = by_first (first_register t fuses) refl
      where
        by_row : (o : Option ℕ) → t.reset ≡ o → names (shared_formula t fuses (leaf_of t) o) (leaf_at e) ≡ true → row_reads_if_any t fuses o e ≡ true
        by_row None has of_row = absurd (true≢false (sym of_row))
        by_row (Some row) has of_row =
            control_reads_it t fuses laws sizes e within row (reset_in t laws row has) (sum_named (leaf_at e) (leaf_of t) (control_products t fuses row) of_row)

        by_first : (o : Option ℕ) → first_register t fuses ≡ o → reset_reads t fuses e ≡ true
        by_first None first = absurd (none_named (leaf_at e) (no_reset first) named)
        by_first (Some g) first = elim (controls t fuses signal (leaf_of t) Resets d.context g first) [
          | inl none ↦ absurd (none_named (leaf_at e) (none.none s) named)
          | inr one ↦ with_one one
        ]
          where
            with_one : HasOne t fuses signal (leaf_of t) Resets d.context g → reset_reads t fuses e ≡ true
            with_one one = elim (cases_Bool (signal_at g == s)) [
              | inl same ↦
                  let here : reset ≡ Some (shared_formula t fuses (leaf_of t) t.reset) =
                  subst (λ (i : ℕ). control_of (formulas d.context) (map (line_gives signal (leaf_of t)) (lines_of t fuses)) i extension.Ar ≡ Some (shared_formula t fuses (leaf_of t) t.reset)) (eqb-true (signal_at g) s same) one.here in
                  by_row t.reset refl (sym (ap (λ (o : Option Formula). names_if_any o (leaf_at e)) here) ∙ named)
              | inr other ↦ absurd (none_named (leaf_at e) (one.other s other) named)
            ]

    -- a signal that the reset reads is on a cell that the reset row reads
    record IsStart (r : ℕ) : Type 0 where
      pub on : IsOn t fuses laws m is r
      pub row_reads : reset_reads t fuses (f r) ≡ true

    starts : (r : ℕ) → reset_equation_reads d s r ≡ true → IsStart r
    starts r reads =
        let to = read t fuses laws m is r (names_if_any (control_of (formulas d.context) cs s extension.Ar)) reads in
        record {
          on = to.on;
          row_reads = ap (reset_reads t fuses) to.on.found
              ∙ reset_row_reads to.on.cell to.on.within (sym (ap (λ (o : Option Formula). names_if_any o (leaf_at to.on.cell)) reset_given) ∙ to.leaf_named);
        }

    pub no_signal_path : HasNoResetPath t fuses → HasNoSignalPath d s
    no_signal_path none =
        no_path (length d.context.names) (length t.cells) (signal_reads d) (plain_reads t fuses) f (IsOn t fuses laws m is) (on_inside t fuses laws m is)
        (reset_equation_reads d s) (is_stored_signal d.context) (reset_reads t fuses) (stores t fuses)
        (λ v w reads. (are_reads v w reads).to)
        (λ v w reads. and_from (not (stores t fuses (f v))) (rest_reads t fuses (f v) (f w)) (plain_at v (are_reads v w reads).from) (are_reads v w reads).rest)
        (λ v reads. (starts v reads).on)
        (λ v reads. (starts v reads).row_reads)
        (λ v on stored. ap (stores t fuses) on.found ∙ sym (on_stored t fuses laws m is v on) ∙ stored)
        none
