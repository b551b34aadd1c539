-- The netlist of a module and the module have the same one values with any as 0.
use Rattle.std.proofs.Common.{◌≡◌, ℕ, ◌<◌, Bool, true, false, not, List, [], ◌∷◌, map, length, Option, Some, None, refl, sym, subst, ap, ◌∙◌, inl, inr, ◌&&◌}
use Rattle.source_machine.proofs.Common.{option_map, cases_Bool, same_level, Levels, IsPoint, Refines, IsDevice, complement_if, Table, cell_at, formula_value, ModuleTree, signal_on, cell_stores, cell_stores_for, Design, design_of, name_at, function_of, is_raw_signal, value_with_any_0, Wanted, PlainNetlist, function_at, wanted_at, drives, given_formulas, is_negated, logic_with_any_0, next_allows, node_allows, node_signal, node_value_by, pin_allows, q_complements, takes_any_as_0, MeansTheSame, netlist_of, wanted_for, data_with_any_0, level_with_any_0, next_with_any_0, netlist_with_any_0, AllowTheSame, GatheredAs0, is_on}
use Rattle.pld_machine.specs.Through.{AllowsAt}
use Rattle.pld_machine.specs.Comparison.{SameCells}
use Rattle.abel_tree.specs.Entries.{is_stored, follows_q}
use Rattle.abel_meaning.specs.AtPoints.{truth_at, given_at}
use Rattle.abel_meaning.specs.Contributions.{Contribution}
use Rattle.abel_meaning.specs.Follows.{seen}
use Rattle.abel_meaning.proofs.FormulasFollow.{formulas_have_values}
use Rattle.abel_meaning.proofs.FunctionValues.{formula_function}
use Rattle.netlist_laws.proofs.CellsFound.{wanted_found}
use Rattle.netlist_laws.proofs.Meaning.{gathered_means_the_same, value_as}
use Rattle.pld_device.specs.Registers.{stores_by}
use Rattle.abel_meaning.specs.NetlistLogic.{registers_as}

-- ---- truth values

-- a value is the other's complement if the other is its own
turned : (n v x : Bool) → same_level v (complement_if n x) ≡ same_level (complement_if n v) x
turned true true true = refl
turned true true false = refl
turned true false true = refl
turned true false false = refl
turned false v x = refl

turned_twice : (n b v x : Bool) → same_level v (complement_if n (complement_if b x)) ≡ same_level (complement_if (complement_if n b) v) x
turned_twice n b v x = turned n v (complement_if b x) ∙ turned b (complement_if n v) x ∙ ap (λ y. same_level y x) (joined n b v)
  where
    joined : (n b v : Bool) → complement_if b (complement_if n v) ≡ complement_if (complement_if n b) v
    joined true true true = refl
    joined true true false = refl
    joined true false v = refl
    joined false b v = refl

off : (v : Bool) → same_level v false ≡ not v
off true = refl
off false = refl

-- data are raw by formulas if they are at a point
raw_of : {V W : Type 0} (h : V → W) (s : ℕ) (cs : List (Contribution V)) → is_raw_signal (map (seen h) cs) s ≡ is_raw_signal cs s
raw_of h s [] = refl
raw_of h s (c ∷ cs) = rw (raw_of h s cs) refl

module _ (t : Table) (m : ModuleTree) (laws : IsDevice t) (means : MeansTheSame t m (netlist_of t m)) where
  abbrev d : Design
  d = design_of t m

  abbrev net : PlainNetlist
  net = netlist_of t m

  abbrev here : (c s : ℕ) → Wanted
  here c s = wanted_for d.context (given_formulas d) c s (name_at d.context s)

  module _ (at : Levels) where
    value_is : (s : ℕ) (c : ℕ) → value_with_any_0 (function_at at (here c s).function) ≡ value_with_any_0 (function_of (truth_at d.context at) (given_at d at) s)
    value_is s c = ap (λ f. value_with_any_0 f) (formula_function d at s)

    raw_is : (s : ℕ) → is_raw_signal (given_formulas d) s ≡ is_raw_signal (given_at d at) s
    raw_is s = sym (raw_of (formula_value at) s (given_formulas d)) ∙ ap (λ cs. is_raw_signal cs s) (formulas_have_values d at)

    module _ (c : ℕ) (within : c < length t.cells) where
      level_by : (found : Option ℕ) (v : Bool) → signal_on d.context c ≡ found
          → same_level v (level_with_any_0 at (cell_at t c).kinds c (option_map (here c) found)) ≡ pin_allows takes_any_as_0 d.context at (given_at d at) c found v
      level_by None v is =
          let none : wanted_at net c ≡ None = wanted_found d.context (given_formulas d) laws c within ∙ ap (option_map (here c)) is in
          let stores : stores_by (cell_at t c).kinds false ≡ cell_stores d.context c =
          ap (registers_as (cell_at t c).kinds) (sym none) ∙ means.to.same_cells.stores c within in
          ap (λ b. same_level v (not (b && is_on at.q c))) stores
      level_by (Some s) v is =
          elim (cases_Bool (is_stored (name_at d.context s))) [
            | inl kept ↦ rw kept refl
            | inr plain ↦ rw plain (turned (is_negated (name_at d.context s).kind) v (value_with_any_0 (function_at at (here c s).function)) ∙ ap (same_level (complement_if (is_negated (name_at d.context s).kind) v)) (value_is s c))
          ]

      level_same : (v : Bool) → (netlist_with_any_0 t net).allows_level at c v ≡ (logic_with_any_0 d).allows_level at c v
      level_same v =
          ap (λ w. same_level v (level_with_any_0 at (cell_at t c).kinds c w)) (wanted_found d.context (given_formulas d) laws c within) ∙ level_by (signal_on d.context c) v refl

      next_named : (s : ℕ) (v raw : Bool) → is_stored (name_at d.context s) ≡ true → is_raw_signal (given_formulas d) s ≡ raw
          → same_level v (data_with_any_0 at (here c s)) ≡ same_level (complement_if (q_complements raw (name_at d.context s)) v) (value_with_any_0 (function_at at (here c s).function))
      next_named s v true kept is = rw (kept, is) refl
      next_named s v false kept is = rw (kept, is) (turned_twice (is_negated (name_at d.context s).kind) (not (follows_q (name_at d.context s))) v (value_with_any_0 (function_at at (here c s).function)))

      next_by : (found : Option ℕ) (v : Bool) → cell_stores_for d.context c found ≡ true → same_level v (next_with_any_0 at (option_map (here c) found)) ≡ next_allows takes_any_as_0 d.context at (given_at d at) found v
      next_by None v stores = off v
      next_by (Some s) v stores =
          next_named s v (is_raw_signal (given_formulas d) s) stores refl
          ∙ ap (λ r. same_level (complement_if (q_complements r (name_at d.context s)) v) (value_with_any_0 (function_at at (here c s).function))) (raw_is s)
          ∙ ap (same_level (complement_if (q_complements (is_raw_signal (given_at d at) s) (name_at d.context s)) v)) (value_is s c)

      next_same : (v : Bool) → cell_stores d.context c ≡ true → (netlist_with_any_0 t net).allows_next at c v ≡ (logic_with_any_0 d).allows_next at c v
      next_same v stores =
          ap (λ w. same_level v (next_with_any_0 at w)) (wanted_found d.context (given_formulas d) laws c within) ∙ next_by (signal_on d.context c) v stores

    node_by : (found : Option ℕ) (v : Bool) → same_level v (node_value_by d.context at (given_at d at) found) ≡ node_allows takes_any_as_0 d.context at (given_at d at) found v
    node_by None v = off v
    node_by (Some s) v = refl

    node_same : (n : ℕ) (v : Bool) → (netlist_with_any_0 t net).allows_node at n v ≡ (logic_with_any_0 d).allows_node at n v
    node_same n v = ap (same_level v) (value_as t m at n) ∙ node_by (node_signal d.context n) v

  to_allows : (at : Levels) → IsPoint at → AllowsAt (netlist_with_any_0 t net) (logic_with_any_0 d) at at
  to_allows at is =
      let to = means.to.allows at is in
      record {
        enabled = to.enabled;
        level = λ c within on v allowed. sym (level_same at c within v) ∙ allowed;
        reset = to.reset;
        preset = to.preset;
        next = λ c within stores v allowed. sym (next_same at c within v stores) ∙ allowed;
      }

  from_allows : (at : Levels) → IsPoint at → AllowsAt (logic_with_any_0 d) (netlist_with_any_0 t net) at at
  from_allows at is =
      let from = means.from.allows at is in
      record {
        enabled = from.enabled;
        level = λ c within on v allowed. level_same at c within v ∙ allowed;
        reset = from.reset;
        preset = from.preset;
        next = λ c within stores v allowed. next_same at c within v (means.from.same_cells.stores c within ∙ stores) ∙ allowed;
      }

  to_cells : SameCells (netlist_with_any_0 t net) (logic_with_any_0 d)
  to_cells = record { cells = refl; pin = λ c within. refl; stores = means.to.same_cells.stores; clock = refl }

  from_cells : SameCells (logic_with_any_0 d) (netlist_with_any_0 t net)
  from_cells = record { cells = refl; pin = λ c within. refl; stores = means.from.same_cells.stores; clock = refl }

  to_source : Refines (netlist_with_any_0 t net) (logic_with_any_0 d)
  to_source = record {
    same_cells = to_cells;
    is_node = means.to.is_node;
    allows = to_allows;
    node = λ at is n low v allowed. sym (node_same at n v) ∙ allowed;
  }

  from_source : Refines (logic_with_any_0 d) (netlist_with_any_0 t net)
  from_source = record {
    same_cells = from_cells;
    is_node = means.from.is_node;
    allows = from_allows;
    node = λ at is n low v allowed. node_same at n v ∙ allowed;
  }

-- a netlist that is the module's and means the same
pub netlist_as_0 : (t : Table) (m : ModuleTree) (net : PlainNetlist) → IsDevice t → net ≡ netlist_of t m → MeansTheSame t m net
    → AllowTheSame (netlist_with_any_0 t net) (logic_with_any_0 (design_of t m))
netlist_as_0 t m net laws is means =
    let same : MeansTheSame t m (netlist_of t m) = subst (MeansTheSame t m) is means in
    subst (λ n. AllowTheSame (netlist_with_any_0 t n) (logic_with_any_0 (design_of t m))) (sym is)
    (record { to = to_source t m laws same; from = from_source t m laws same })

pub gathered_as_0 : GatheredAs0
gathered_as_0 t m laws has = netlist_as_0 t m (netlist_of t m) laws refl (gathered_means_the_same t m laws has)
