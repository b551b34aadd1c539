-- The netlist of a decompiled source asks of each cell what its lines say.
use Rattle.std.proofs.Common.{◌≡◌, ℕ, ◌+◌, ◌<◌, ◌⊎◌, inl, inr, Bool, true, false, Option, Some, None, List, [], ◌∷◌, length, filter, map, slice_get, get_or, unwrap_or, refl, sym, ap, subst, ◌∙◌, arith, ◌==◌, ◌&&◌, ◌||◌}
use Rattle.decompiled.proofs.Common.{list_any, option_map, cases_Bool, eqb-true, true≢false, slice_get-get_or, slice_get_within, Enable, Row, PinLow, Driven, Released, IsDevice, stores, Table, cell_at, Formula, Const, Extension, Entry, is_stored, ModuleTree, is_raw, Contribution, control_if_stored, control_of, shared_from, Design, design_of, name_at, no_name, formulas, function_of, is_data_to, is_raw_signal, names_of, PlainNetlist, Wanted, own_of, own_or_shared, shared_function, wanted_at, given_formulas, is_negated, is_node_number, node_signal, by_row, netlist_of, wanted_for, wanted_found, SumLine, IsSourceTree, is_data_line, line_gives, sum_formula, control_line, data_line, enable_lines, first_register, has_lines, lines_of, source_of, IsCellAsked, IsFusesNetlist, enable_formula, shared_formula, HasOwnLines, leaf_of, signal_of}
use Rattle.abel_tree.specs.declared.words.Extension.TheVariants as extension
use Rattle.netlist_laws.proofs.NodeNumbers.{names_numbered}
use Rattle.netlist_laws.proofs.NodesFound.{function_here, node_found}
use Rattle.netlist_laws.proofs.SharedControls.{shared_is}
use Rattle.decompiled.proofs.OneLine.{says}
use Rattle.decompiled.proofs.CellLines.{have}
use Rattle.decompiled.specs.Netlists.{NetlistsAreOfFuses}
use Rattle.decompiled.proofs.AssignedPins.{any_kept, own}
use Rattle.decompiled.proofs.PinWords.{cell_name, found_passes, name, none_passes}
use Rattle.decompiled.proofs.SharedRows.{HasNone, HasOne, Shared, Resets, Presets, controls, extension_for, row_for, shared_none, shared_one}
use Rattle.decompiled.proofs.SignalsOn.{lines_declare, none_first, on_it, on_none, registers_have_cells}
use Rattle.decompiled.proofs.SourceNames.{names_at, pin_named}
use Rattle.decompiled.proofs.SourcePins.{IsDeclared}
use Rattle.decompiled.proofs.SourceReads.{given_is}

module _ (t : Table) (fuses : List Bool) (laws : IsDevice t) (m : ModuleTree) (is : IsSourceTree (source_of t fuses) m) where
  abbrev d : Design
  d = design_of t m

  abbrev cs : List (Contribution Formula)
  cs = given_formulas d

  abbrev net : PlainNetlist
  net = netlist_of t m

  abbrev signal : ℕ → ℕ
  signal = signal_of t fuses

  abbrev given : List (Contribution Formula)
  given = map (line_gives signal (leaf_of t)) (lines_of t fuses)

  abbrev signal_at : ℕ → ℕ
  signal_at c = signal (cell_at t c).pin

  -- ---- nodes

  no_node : (n : ℕ) → node_signal d.context n ≡ None
  no_node n = none_first (λ (x : Entry). is_node_number n x.kind) (names_of t m) no_name fails
    where
      fails : (j : ℕ) → is_node_number n (get_or (names_of t m) j no_name).kind ≡ false
      fails j = elim (names_at t fuses laws m is j) [
        | inl device ↦ ap (is_node_number n) device.0
        | inr pin ↦ ap (is_node_number n) pin.4
      ]

  no_nodes : net.nodes ≡ []
  no_nodes = empty net.nodes (node_found d.context cs 0 (names_numbered t m) ∙ ap (option_map (function_here d.context cs)) (no_node 0))
    where
      empty : {A : Type 0} (xs : List A) → slice_get xs 0 ≡ None → xs ≡ []
      empty [] none = refl
      empty (x ∷ xs) none = absurd (some_none none)
        where
          some_none : Some x ≡ None → ⊥
          some_none e = cc

  -- ---- cells

  module _ (c : ℕ) (within : c < length t.cells) (some : has_lines t fuses c ≡ true) where
    dec : IsDeclared t fuses laws (cell_at t c).pin
    dec = lines_declare t fuses laws c within some

    abbrev wanted : Wanted
    wanted = wanted_for d.context cs c (signal_at c) (name t fuses laws m is (cell_at t c).pin)

    wanted_is : wanted_at net c ≡ Some wanted
    wanted_is = wanted_found d.context cs laws c within ∙ ap (option_map (λ s. wanted_for d.context cs c s (name_at d.context s))) (on_it t fuses laws m is c within some)

    own_lines : HasOwnLines t fuses signal c
    own_lines = have t fuses signal c within (own t fuses laws m is c within dec)

    own_data : filter (is_data_line signal (signal_at c)) (lines_of t fuses) ≡ data_line t fuses c ∷ []
    own_data = own_lines.data_is ∙ (rw some refl)

    function_is : function_of (formulas d.context) cs (signal_at c) ≡ record { one = sum_formula (leaf_of t) (data_line t fuses c).products; any = Const false; complement = (data_line t fuses c).negated }
    function_is =
        ap (λ (gs : List (Contribution Formula)). function_of (formulas d.context) gs (signal_at c)) (given_is t fuses laws m is)
        ∙ (says d.context signal (leaf_of t) (lines_of t fuses) (signal_at c)).function (data_line t fuses c)
        own_data

    raw_is : wanted.raw ≡ stores t fuses c
    raw_is = by_kind (stores t fuses c) refl
      where
        stored_is : is_stored (name t fuses laws m is (cell_at t c).pin) ≡ stores t fuses c
        stored_is = (cell_name t fuses laws m is c within dec).stored

        any_mapped : {A B : Type 0} (f : A → B) (test : B → Bool) (xs : List A) → list_any test (map f xs) ≡ list_any (λ x. test (f x)) xs
        any_mapped f test [] = refl
        any_mapped f test (x ∷ xs) = ap (λ (b : Bool). test (f x) || b) (any_mapped f test xs)

        raw_given : stores t fuses c ≡ true → is_raw_signal cs (signal_at c) ≡ true
        raw_given e =
            ap (λ (gs : List (Contribution Formula)). is_raw_signal gs (signal_at c)) (given_is t fuses laws m is)
            ∙ any_mapped (line_gives signal (leaf_of t)) (λ (g : Contribution Formula). is_data_to (signal_at c) g && is_raw g.extension) (lines_of t fuses)
            ∙ any_kept (is_data_line signal (signal_at c)) (λ l. is_raw l.extension) (lines_of t fuses)
            ∙ ap (list_any (λ (l : SumLine). is_raw l.extension)) own_data
            ∙ (rw e refl)

        by_kind : (b : Bool) → stores t fuses c ≡ b → (is_stored (name t fuses laws m is (cell_at t c).pin) && is_raw_signal cs (signal_at c)) ≡ stores t fuses c
        by_kind true e = ap (λ (b : Bool). b && is_raw_signal cs (signal_at c)) (stored_is ∙ e) ∙ raw_given e ∙ sym e
        by_kind false e = ap (λ (b : Bool). b && is_raw_signal cs (signal_at c)) (stored_is ∙ e) ∙ sym e

    enable_is : wanted.enable ≡ enable_formula t fuses (leaf_of t) (cell_at t c).enable
    enable_is = by_enable (cell_at t c).enable refl
      where
        by_enable : (x : Enable) → (cell_at t c).enable ≡ x → by_row x (control_of (formulas d.context) cs (signal_at c) extension.Oe) ≡ enable_formula t fuses (leaf_of t) x
        by_enable (PinLow pin) e = refl
        by_enable Driven e = refl
        by_enable Released e = refl
        by_enable (Row row) e =
            ap (λ (gs : List (Contribution Formula)). control_of (formulas d.context) gs (signal_at c) extension.Oe) (given_is t fuses laws m is)
            ∙ (says d.context signal (leaf_of t) (lines_of t fuses) (signal_at c)).control extension.Oe (control_line t fuses c extension.Oe row) refl
            (own_lines.enable_is ∙ (rw some (ap (enable_lines t fuses c) e)))

    cell_asked : IsCellAsked t fuses (leaf_of t) c wanted
    cell_asked =
        let x = cell_name t fuses laws m is c within dec in
        record {
          registered = x.stored;
          buffer = x.follows;
          negated = ap is_negated x.kind;
          raw = raw_is;
          function = function_is;
          enable = enable_is;
        }

  -- ---- resets and presets

  abbrev own_by : Shared → Wanted → Option Formula
  own_by Resets w = w.reset
  own_by Presets w = w.preset

  own_by_is : (which : Shared) (c s : ℕ) (x : Entry) → own_by which (wanted_for d.context cs c s x) ≡ control_if_stored (formulas d.context) cs (extension_for which) s x
  own_by_is Resets c s x = refl
  own_by_is Presets c s x = refl

  module _ (which : Shared) where
    abbrev e : Extension
    e = extension_for which

    abbrev G : Formula
    G = shared_formula t fuses (leaf_of t) (row_for t which)

    abbrev control : ℕ → Option Formula
    control s = control_of (formulas d.context) given s e

    -- the control of a name, by whether it is a register
    name_control : (s : ℕ) (x : Entry) → (control_if_stored (formulas d.context) cs e s x ≡ None) ⊎ (control_if_stored (formulas d.context) cs e s x ≡ control s)
    name_control s x = elim (cases_Bool (is_stored x)) [
      | inl stored ↦ inr (rw stored (ap (λ (gs : List (Contribution Formula)). control_of (formulas d.context) gs s e) (given_is t fuses laws m is)))
      | inr plain ↦ inl (rw plain refl)
    ]

    stored_control : (s : ℕ) (x : Entry) → is_stored x ≡ true → control_if_stored (formulas d.context) cs e s x ≡ control s
    stored_control s x stored = rw stored (ap (λ (gs : List (Contribution Formula)). control_of (formulas d.context) gs s e) (given_is t fuses laws m is))

    shared_as : shared_function (own_by which) net ≡ shared_from (formulas d.context) cs e 0 (names_of t m)
    shared_as = shared_is d.context cs e (own_by which) (own_by_is which) 0 (names_of t m) (registers_have_cells t fuses laws m is)

    module _ (c : ℕ) (within : c < length t.cells) (stored : stores t fuses c ≡ true) where
      some_lines : has_lines t fuses c ≡ true
      some_lines = rw stored refl

      x_stored : is_stored (name t fuses laws m is (cell_at t c).pin) ≡ true
      x_stored = (cell_name t fuses laws m is c within (dec c within some_lines)).stored ∙ stored

      own_is : own_or_shared (own_by which) net c ≡ unwrap_or (control (signal_at c)) (shared_from (formulas d.context) cs e 0 (names_of t m))
      own_is =
          ap (λ (w : Option Wanted). unwrap_or (own_of (own_by which) w) (shared_function (own_by which) net)) (wanted_is c within some_lines)
          ∙ ap (λ (o : Option Formula). unwrap_or o (shared_function (own_by which) net)) (own_by_is which c (signal_at c) (name t fuses laws m is (cell_at t c).pin) ∙ stored_control (signal_at c) (name t fuses laws m is (cell_at t c).pin) x_stored)
          ∙ ap (unwrap_or (control (signal_at c))) shared_as

    there : (c : ℕ) → c < length t.cells → stores t fuses c ≡ true → slice_get (names_of t m) (signal_at c) ≡ Some (name t fuses laws m is (cell_at t c).pin)
    there c within stored =
        slice_get-get_or (names_of t m) (signal_at c) no_name
        (slice_get_within (names_of t m) (signal_at c) _ (pin_named t fuses laws m is (cell_at t c).pin (dec c within (rw stored refl))).there)

    pub shared_rows : (c : ℕ) → c < length t.cells → stores t fuses c ≡ true → own_or_shared (own_by which) net c ≡ G
    shared_rows c within stored = by_first (first_register t fuses) refl
      where
        by_first : (o : Option ℕ) → first_register t fuses ≡ o → own_or_shared (own_by which) net c ≡ G
        by_first None first = absurd (true≢false (sym stored ∙ none_passes (stores t fuses) 0 (length t.cells) c first (omega arith) (omega (arith, within))))
        by_first (Some f) first = elim (controls t fuses signal (leaf_of t) which d.context f first) [
          | inl none ↦ with_none none
          | inr one ↦ with_one one
        ]
          where
            f_at : (stores t fuses f ≡ true) × (f < 0 + length t.cells)
            f_at = found_passes (stores t fuses) 0 (length t.cells) f first

            f_within : f < length t.cells
            f_within = omega (arith, f_at.1)

            with_none : HasNone t fuses signal (leaf_of t) which d.context → own_or_shared (own_by which) net c ≡ G
            with_none none =
                own_is c within stored
                ∙ ap (λ (o : Option Formula). unwrap_or o (shared_from (formulas d.context) cs e 0 (names_of t m))) (none.none (signal_at c))
                ∙ shared_none d.context cs e 0 (names_of t m) (λ k x at. elim (name_control (0 + k) x) [ inl plain ↦ plain | inr has ↦ has ∙ none.none (0 + k) ])
                ∙ sym none.zero_is

            with_one : HasOne t fuses signal (leaf_of t) which d.context f → own_or_shared (own_by which) net c ≡ G
            with_one one = elim (cases_Bool (signal_at f == signal_at c)) [
              | inl same ↦
                  own_is c within stored
                  ∙ ap (λ (o : Option Formula). unwrap_or o (shared_from (formulas d.context) cs e 0 (names_of t m))) (subst (λ (s : ℕ). control s ≡ Some G) (eqb-true (signal_at f) (signal_at c) same) one.here)
              | inr apart ↦
                  own_is c within stored
                  ∙ ap (λ (o : Option Formula). unwrap_or o (shared_from (formulas d.context) cs e 0 (names_of t m))) (one.other (signal_at c) apart)
                  ∙ shared_one d.context cs e G 0 (names_of t m) (signal_at f) (name t fuses laws m is (cell_at t f).pin) (there f f_within f_at.0) f_owns each
            ]
              where
                f_owns : control_if_stored (formulas d.context) cs e (0 + signal_at f) (name t fuses laws m is (cell_at t f).pin) ≡ Some G
                f_owns = ap (λ (s : ℕ). control_if_stored (formulas d.context) cs e s (name t fuses laws m is (cell_at t f).pin)) (omega arith)
                    ∙ stored_control (signal_at f) (name t fuses laws m is (cell_at t f).pin) (x_stored f f_within f_at.0) ∙ one.here

                each : (k : ℕ) (x : Entry) → slice_get (names_of t m) k ≡ Some x → (control_if_stored (formulas d.context) cs e (0 + k) x ≡ None) ⊎ (control_if_stored (formulas d.context) cs e (0 + k) x ≡ Some G)
                each k x at = elim (name_control (0 + k) x) [
                  | inl plain ↦ inl plain
                  | inr has ↦ elim (cases_Bool (signal_at f == (0 + k))) [
                    | inl same ↦ inr (has ∙ subst (λ (s : ℕ). control s ≡ Some G) (eqb-true (signal_at f) (0 + k) same) one.here)
                    | inr apart ↦ inl (has ∙ one.other (0 + k) apart)
                  ]
                ]

  -- ---- the whole

  pub is_of_fuses : IsFusesNetlist t fuses (leaf_of t) net
  is_of_fuses = record {
    nodes = no_nodes;
    assigned = λ c within some. (wanted c within some, wanted_is c within some, cell_asked c within some);
    unassigned = λ c within none. wanted_found d.context cs laws c within ∙ ap (option_map (λ s. wanted_for d.context cs c s (name_at d.context s))) (on_none t fuses laws m is c within none);
    reset = shared_rows Resets;
    preset = shared_rows Presets;
  }

pub netlists_of_fuses : NetlistsAreOfFuses
netlists_of_fuses t fuses m laws is = is_of_fuses t fuses laws m is
