-- At every point a cell's OR may have the same values by a module and by its netlist under a choice, and the same points are
-- valued.
use Rattle.std.proofs.Common.{◌≡◌, ℕ, ◌<◌, Bool, true, false, not, if◌then◌else◌, List, length, Some, refl, sym, ap, ◌∙◌, arith}
use Rattle.netlist_laws.proofs.Common.{is_on, same_level, IsPoint, Levels, exchanged_at, in_sense, IsDevice, complement_if, data_complements, pin_complements, stores, is_inverted, Table, ModuleTree, is_stored, given_at, inverting, signal_on, Design, design_of, name_at, allows, Wanted, as_named, function_at, wanted_at, given_formulas, next_allows, pin_allows, MayExchangeIn, function_exchanged, netlist_exchanged, wanted_exchanged, IsValuedFor, or_may_be, wanted_for, netlist_of, IsValuedPoint, chosen_logic, or_allows}
use Rattle.netlist_laws.proofs.ExchangedFormulas.{function_value_exchanged}
use Rattle.netlist_laws.proofs.ExchangedLogic.{exchanged_means_so, named_by, named_plain}
use Rattle.netlist_laws.proofs.Meaning.{is_node_as, level_of, next_as, value_as}

module _ (t : Table) (m : ModuleTree) (fuses : List Bool) where
  -- the free registers that the fuses show inverted
  abbrev pub choice : ℕ → Bool
  choice = inverting (is_inverted t fuses) (design_of t m).context

  module _ (laws : IsDevice t) (may : MayExchangeIn t (netlist_of t m) choice) where
    low : (c : ℕ) → choice c ≡ true → c < 32
    low c on = let few = laws.sizes.few_cells in omega (arith, (may c on).0, few)

    -- ---- valued points

    -- a point that is valued for the module is so for its netlist
    pub valued_there : (at : Levels) → IsValuedPoint t m fuses at → IsValuedFor t (netlist_exchanged choice (netlist_of t m)) at
    valued_there at v =
        let means = exchanged_means_so t (netlist_of t m) choice laws may in
        record {
          is_point = v.is_point;
          node = λ n bound node.
              v.node n bound (sym (is_node_as t m n) ∙ (means.from.is_node n bound ∙ node))
              ∙ (sym (value_as t m (exchanged_at choice at) n) ∙ sym (means.values at v.is_point n bound node));
          no_node = λ n bound none. v.no_node n bound (sym (is_node_as t m n) ∙ (means.from.is_node n bound ∙ none));
        }

    -- and the other way round
    pub valued_back : (at : Levels) → IsValuedFor t (netlist_exchanged choice (netlist_of t m)) at → IsValuedPoint t m fuses at
    valued_back at v =
        let means = exchanged_means_so t (netlist_of t m) choice laws may in
        record {
          is_point = v.is_point;
          node = λ n bound node.
              let also = sym (means.from.is_node n bound) ∙ (is_node_as t m n ∙ node) in
              v.node n bound also ∙ (means.values at v.is_point n bound also ∙ value_as t m (exchanged_at choice at) n);
          no_node = λ n bound none. v.no_node n bound (sym (means.from.is_node n bound) ∙ (is_node_as t m n ∙ none));
        }

    -- ---- the OR of a cell

    module _ (c : ℕ) (within : c < length t.cells) (s : ℕ) (on : signal_on (design_of t m).context c ≡ Some s) where
      abbrev d : Design
      d = design_of t m

      -- what the netlist asks of the cell
      abbrev pub asked : Wanted
      asked = wanted_for d.context (given_formulas d) c s (name_at d.context s)

      abbrev by_register : Bool
      by_register = data_complements t.flip (is_inverted t fuses c)

      abbrev by_pin : Bool
      by_pin = pin_complements t.flip false (is_inverted t fuses c)

      function_same : (at : Levels) → IsPoint at → (v : Bool) → allows (function_at at (function_exchanged choice asked.function)) v ≡ allows (function_at (exchanged_at choice at) asked.function) v
      function_same at is v = ap (λ f. allows f v) (function_value_exchanged choice low at is asked.function)

      stored_same : (at : Levels) → IsPoint at → wanted_at (netlist_of t m) c ≡ Some asked → (v : Bool) → is_stored (name_at d.context s) ≡ true
          → allows (function_at at (function_exchanged choice asked.function)) (as_named (wanted_exchanged choice asked) (complement_if by_register v)) ≡ (chosen_logic t m fuses).allows_next at c (complement_if by_register v)
      stored_same at is found v stored =
          function_same at is (as_named (wanted_exchanged choice asked) (complement_if by_register v))
          ∙ (ap (allows (function_at (exchanged_at choice at) asked.function)) (named_by t laws (netlist_of t m) choice may at is c asked (complement_if by_register v) found refl stored)
          ∙ (next_as d laws (exchanged_at choice at) c within (Some s) (in_sense (choice c) (complement_if by_register v)) stored
          ∙ ap (λ f. next_allows allows d.context (exchanged_at choice at) (given_at d (exchanged_at choice at)) f (in_sense (choice c) (complement_if by_register v))) (sym on)))

      plain_same : (at : Levels) → IsPoint at → (v : Bool) → is_stored (name_at d.context s) ≡ false
          → allows (function_at at (function_exchanged choice asked.function)) (as_named (wanted_exchanged choice asked) (complement_if by_pin v)) ≡ (chosen_logic t m fuses).allows_level at c (complement_if by_pin v)
      plain_same at is v plain =
          let level = complement_if by_pin v in
          let named = allows (function_at (exchanged_at choice at) asked.function) (as_named asked level) in
          function_same at is (as_named (wanted_exchanged choice asked) level)
          ∙ (ap (allows (function_at (exchanged_at choice at) asked.function)) (named_plain t laws (netlist_of t m) choice may at is c asked level plain)
          ∙ (sym (ap (λ b. if b then same_level level (complement_if (not asked.buffer) (is_on (exchanged_at choice at).q c)) else named) plain)
          ∙ (level_of d laws (exchanged_at choice at) c within s level on
          ∙ ap (λ f. pin_allows allows d.context (exchanged_at choice at) (given_at d (exchanged_at choice at)) c f level) (sym on))))

      by_kind : (at : Levels) → IsPoint at → wanted_at (netlist_of t m) c ≡ Some asked → (v stored : Bool) → is_stored (name_at d.context s) ≡ stored → stores t fuses c ≡ stored
          → or_may_be t fuses c (wanted_exchanged choice asked) at v ≡ or_allows t m fuses c at v
      by_kind at is found v true stored here =
          ap (λ b. allows (function_at at (function_exchanged choice asked.function)) (as_named (wanted_exchanged choice asked) (complement_if (if b then by_register else by_pin) v))) stored
          ∙ (stored_same at is found v stored
          ∙ sym (ap (λ b. if b then (chosen_logic t m fuses).allows_next at c (complement_if by_register v) else (chosen_logic t m fuses).allows_level at c (complement_if by_pin v)) here))
      by_kind at is found v false plain here =
          ap (λ b. allows (function_at at (function_exchanged choice asked.function)) (as_named (wanted_exchanged choice asked) (complement_if (if b then by_register else by_pin) v))) plain
          ∙ (plain_same at is v plain
          ∙ sym (ap (λ b. if b then (chosen_logic t m fuses).allows_next at c (complement_if by_register v) else (chosen_logic t m fuses).allows_level at c (complement_if by_pin v)) here))

      -- if the cell is a register just as its signal is, the OR may have the same values by both
      pub same_or : wanted_at (netlist_of t m) c ≡ Some asked → stores t fuses c ≡ is_stored (name_at d.context s) → (at : Levels) → IsPoint at → (v : Bool)
          → or_may_be t fuses c (wanted_exchanged choice asked) at v ≡ or_allows t m fuses c at v
      same_or found kind at is v = by_kind at is found v (is_stored (name_at d.context s)) refl kind
