-- The netlist of a module and the module allow the same at every point, and value the nodes alike.
use Rattle.std.proofs.Common.{◌≡◌, ℕ, ◌<◌, Bool, true, false, not, List, [], ◌∷◌, map, length, Option, Some, None, refl, sym, ap, ap₂, ◌∙◌, inl, inr, is_some, unwrap_or, nat_lt, if◌then◌else◌, ◌&&◌}
use Rattle.netlist_laws.proofs.Common.{option_map, cases_Bool, Levels, Refines, SameCells, AllowsAt, Enable, Row, PinLow, Driven, Released, Kinds, Combinational, Registered, Either, IsDevice, complement_if, stores_by, Table, cell_at, no_cell, Formula, Const, formula_value, Extension, Entry, is_stored, follows_q, ModuleTree, truth_at, given_at, Contribution, signal_on, must_register, cell_stores_for, cell_stores, cell_enabled_by, control_of, control_if_stored, shared_control, register_control, is_free_signal, Design, design_of, name_at, seen, formulas, Function, function_of, is_raw_signal, allows, value_with_any_0, Wanted, node_at, wanted_at, no_function, function_at, as_named, own_of, shared_function, own_or_shared, registers_as, netlist_stores, drives, may_drive, may_store, netlist_logic, netlist_values, given_formulas, is_negated, pin_allows, next_allows, q_complements, node_signal, node_allows, node_value_by, source_logic, source_values, formulas_have_values, formula_function, formula_control, MeansTheSame, is_free_wanted, GatheredMeansTheSame, by_row, wanted_for, gathered, netlist_of, RegistersHaveCells, is_on, same_level}
use Rattle.abel_tree.specs.declared.words.Extension.TheVariants as extension
use Rattle.netlist_laws.proofs.CellsFound.{wanted_found}
use Rattle.netlist_laws.proofs.NodeNumbers.{names_numbered}
use Rattle.netlist_laws.proofs.NodesFound.{node_found, there, taken}
use Rattle.netlist_laws.proofs.SharedControls.{unwrapped, stored_value, shared_is, shared_value}

-- ---- raw data

raw_seen : {V W : Type 0} (h : V → W) (cs : List (Contribution V)) (s : ℕ) → is_raw_signal (map (seen h) cs) s ≡ is_raw_signal cs s
raw_seen h [] s = refl
raw_seen h (c ∷ cs) s = rw (raw_seen h cs s) refl

-- data are raw by formulas just if they are at a point
raw_value : (d : Design) (at : Levels) (s : ℕ) → is_raw_signal (given_formulas d) s ≡ is_raw_signal (given_at d at) s
raw_value d at s =
    sym (raw_seen (formula_value at) (given_formulas d) s) ∙ ap (λ cs. is_raw_signal cs s) (formulas_have_values d at)

-- the value of the name if the next Q is this
q_named : (raw negated buffer q : Bool) → (if raw then q else complement_if negated (complement_if (not buffer) q)) ≡ complement_if (if raw then false else complement_if negated (not buffer)) q
q_named true negated buffer q = refl
q_named false true true true = refl
q_named false true true false = refl
q_named false true false true = refl
q_named false true false false = refl
q_named false false true true = refl
q_named false false true false = refl
q_named false false false true = refl
q_named false false false false = refl

q_complements_by : (raw : Bool) (x : Entry) → q_complements raw x ≡ (if raw then false else complement_if (is_negated x.kind) (not (follows_q x)))
q_complements_by true x = refl
q_complements_by false x = refl

-- ---- cells

module _ (d : Design) (laws : IsDevice d.context.device) (at : Levels) (c : ℕ) (within : c < length d.context.device.cells) where
  abbrev pub here : ℕ → Wanted
  here s = wanted_for d.context (given_formulas d) c s (name_at d.context s)

  function_is : (s : ℕ) → function_at at (here s).function ≡ function_of (truth_at d.context at) (given_at d at) s
  function_is s = formula_function d at s

  kind_without : (kinds : Kinds) → stores_by kinds false ≡ must_register kinds
  kind_without Combinational = refl
  kind_without Registered = refl
  kind_without Either = refl

  pub stores_as : (found : Option ℕ) → registers_as (cell_at d.context.device c).kinds (option_map here found) ≡ cell_stores_for d.context c found
  stores_as None = kind_without (cell_at d.context.device c).kinds
  stores_as (Some s) = refl

  pub free_as : (found : Option ℕ) → is_free_wanted (option_map here found) ≡ is_free_signal d.context found
  free_as None = refl
  free_as (Some s) = refl

  enabled_as : (found : Option ℕ) (enable : Enable) → (cell_at d.context.device c).enable ≡ enable → drives at (option_map here found) enable ≡ cell_enabled_by (truth_at d.context at) at (given_at d at) found enable
  enabled_as None (Row row) is = refl
  enabled_as None (PinLow pin) is = refl
  enabled_as (Some s) (PinLow pin) is = refl
  enabled_as None Driven is = refl
  enabled_as (Some s) Driven is = refl
  enabled_as None Released is = refl
  enabled_as (Some s) Released is = refl
  enabled_as (Some s) (Row row) is =
      ap (λ e. formula_value at (unwrap_or (by_row e (control_of (formulas d.context) (given_formulas d) s extension.Oe)) (Const true))) is
      ∙ unwrapped at (control_of (formulas d.context) (given_formulas d) s extension.Oe) (Const true)
      ∙ ap (λ f. unwrap_or f true) (formula_control d at s extension.Oe)

  -- whether or not it is enabled
  pub level_of : (s : ℕ) (v : Bool) → signal_on d.context c ≡ Some s → may_drive at (cell_at d.context.device c).kinds c (Some (here s)) v ≡ pin_allows allows d.context at (given_at d at) c (Some s) v
  level_of s v is =
      elim (cases_Bool (is_stored (name_at d.context s))) [
        | inl stored ↦ rw stored refl
        | inr combinational ↦ rw combinational (ap (λ f. allows f (complement_if (is_negated (name_at d.context s).kind) v)) (function_is s))
      ]

  level_as : (found : Option ℕ) (v : Bool) → signal_on d.context c ≡ found
      → may_drive at (cell_at d.context.device c).kinds c (option_map here found) v ≡ pin_allows allows d.context at (given_at d at) c found v
  level_as None v is =
      ap (λ b. same_level v (not (b && is_on at.q c))) (kind_without (cell_at d.context.device c).kinds ∙ ap (cell_stores_for d.context c) (sym is))
  level_as (Some s) v is = level_of s v is

  pub next_as : (found : Option ℕ) (v : Bool) → cell_stores_for d.context c found ≡ true → may_store at (option_map here found) v ≡ next_allows allows d.context at (given_at d at) found v
  next_as None v stores = refl
  next_as (Some s) v stores =
      ap (λ f. allows f (as_named (here s) v)) (function_is s)
      ∙ ap (λ x. allows (function_of (truth_at d.context at) (given_at d at) s) x) named
    where
      named : as_named (here s) v ≡ complement_if (q_complements (is_raw_signal (given_at d at) s) (name_at d.context s)) v
      named =
          rw stores
          (q_named (is_raw_signal (given_formulas d) s) (is_negated (name_at d.context s).kind) (follows_q (name_at d.context s)) v
          ∙ ap (λ r. complement_if (if r then false else complement_if (is_negated (name_at d.context s).kind) (not (follows_q (name_at d.context s)))) v) (raw_value d at s)
          ∙ ap (λ b. complement_if b v) (sym (q_complements_by (is_raw_signal (given_at d at) s) (name_at d.context s))))

-- ---- resets and presets

module _ (d : Design) (laws : IsDevice d.context.device) (has : RegistersHaveCells d.context) (at : Levels) (e : Extension) (own : Wanted → Option Formula) (own_is : (c s : ℕ) (x : Entry) → own (wanted_for d.context (given_formulas d) c s x) ≡ control_if_stored (formulas d.context) (given_formulas d) e s x) where
  shared_as : formula_value at (shared_function own (gathered d)) ≡ shared_control (truth_at d.context at) d.context (given_at d at) e
  shared_as =
      ap (λ f. formula_value at f) (shared_is d.context (given_formulas d) e own own_is 0 d.context.names has)
      ∙ shared_value d at e 0 d.context.names

  control_as : (c : ℕ) (found : Option ℕ) → cell_stores_for d.context c found ≡ true
      → formula_value at (unwrap_or (own_of own (option_map (λ s. wanted_for d.context (given_formulas d) c s (name_at d.context s)) found)) (shared_function own (gathered d)))
      ≡ register_control (truth_at d.context at) d.context (given_at d at) e found
  control_as c None stores = shared_as
  control_as c (Some s) stores =
      let stored : control_if_stored (truth_at d.context at) (given_at d at) e s (name_at d.context s) ≡ control_of (truth_at d.context at) (given_at d at) s e = rw stores refl in
      unwrapped at (own (wanted_for d.context (given_formulas d) c s (name_at d.context s))) (shared_function own (gathered d))
      ∙ ap₂ (λ f r. unwrap_or f r)
      (ap (λ f. option_map (formula_value at) f) (own_is c s (name_at d.context s)) ∙ stored_value d at e s (name_at d.context s) ∙ stored)
      shared_as

  pub controls_agree : (c : ℕ) → c < length d.context.device.cells → cell_stores d.context c ≡ true → formula_value at (own_or_shared own (gathered d) c) ≡ register_control (truth_at d.context at) d.context (given_at d at) e (signal_on d.context c)
  controls_agree c within stores =
      ap (λ w. formula_value at (unwrap_or (own_of own w) (shared_function own (gathered d)))) (wanted_found d.context (given_formulas d) laws c within)
      ∙ control_as c (signal_on d.context c) stores

-- ---- nodes

module _ (t : Table) (m : ModuleTree) where
  abbrev d : Design
  d = design_of t m

  abbrev node_here : ℕ → Function Formula
  node_here s = function_of (formulas d.context) (given_formulas d) s

  some_mapped : (found : Option ℕ) → is_some (option_map node_here found) ≡ is_some found
  some_mapped None = refl
  some_mapped (Some s) = refl

  pub is_node_as : (n : ℕ) → nat_lt n (length (gathered d).nodes) ≡ is_some (node_signal d.context n)
  is_node_as n =
      there (gathered d).nodes n
      ∙ ap (λ f. is_some f) (node_found d.context (given_formulas d) n (names_numbered t m))
      ∙ some_mapped (node_signal d.context n)

  node_is : (n : ℕ) → node_at (gathered d) n ≡ unwrap_or (option_map node_here (node_signal d.context n)) no_function
  node_is n =
      taken (gathered d).nodes n no_function
      ∙ ap (λ f. unwrap_or f no_function) (node_found d.context (given_formulas d) n (names_numbered t m))

  allows_by : (at : Levels) (found : Option ℕ) (v : Bool) → allows (function_at at (unwrap_or (option_map node_here found) no_function)) v ≡ node_allows allows d.context at (given_at d at) found v
  allows_by at None v = refl
  allows_by at (Some s) v = ap (λ f. allows f v) (formula_function d at s)

  pub node_as : (at : Levels) (n : ℕ) (v : Bool) → allows (function_at at (node_at (gathered d) n)) v ≡ node_allows allows d.context at (given_at d at) (node_signal d.context n) v
  node_as at n v = ap (λ f. allows (function_at at f) v) (node_is n) ∙ allows_by at (node_signal d.context n) v

  value_by : (at : Levels) (found : Option ℕ) → value_with_any_0 (function_at at (unwrap_or (option_map node_here found) no_function)) ≡ node_value_by d.context at (given_at d at) found
  value_by at None = refl
  value_by at (Some s) = ap (λ f. value_with_any_0 f) (formula_function d at s)

  pub value_as : (at : Levels) (n : ℕ) → netlist_values (gathered d) at n ≡ source_values t m at n
  value_as at n = ap (λ f. value_with_any_0 (function_at at f)) (node_is n) ∙ value_by at (node_signal d.context n)

-- ---- what is free

-- the netlist leaves the registers free that the module does
pub free_agree : (t : Table) (m : ModuleTree) → IsDevice t → (c : ℕ) → c < length t.cells → is_free_wanted (wanted_at (netlist_of t m) c) ≡ is_free_signal (design_of t m).context (signal_on (design_of t m).context c)
free_agree t m laws c within =
    let d = design_of t m in
    ap (λ w. is_free_wanted w) (wanted_found d.context (given_formulas d) laws c within)
    ∙ free_as d laws (record { pins = []; q = []; nodes = [] }) c within (signal_on d.context c)

-- ---- the whole

module _ (t : Table) (m : ModuleTree) (laws : IsDevice t) (has : RegistersHaveCells (design_of t m).context) where
  abbrev e : Design
  e = design_of t m

  stores_agree : (c : ℕ) → c < length t.cells → netlist_stores t (gathered e) c ≡ cell_stores e.context c
  stores_agree c within =
      ap (λ w. registers_as (cell_at t c).kinds w) (wanted_found e.context (given_formulas e) laws c within)
      ∙ stores_as e laws (record { pins = []; q = []; nodes = [] }) c within (signal_on e.context c)

  enabled_agree : (at : Levels) (c : ℕ) → c < length t.cells → (netlist_logic t (gathered e)).enabled at c ≡ (source_logic t m).enabled at c
  enabled_agree at c within =
      ap (λ w. drives at w (cell_at t c).enable) (wanted_found e.context (given_formulas e) laws c within)
      ∙ enabled_as e laws at c within (signal_on e.context c) (cell_at t c).enable refl

  level_agree : (at : Levels) (c : ℕ) (v : Bool) → c < length t.cells → (netlist_logic t (gathered e)).allows_level at c v ≡ (source_logic t m).allows_level at c v
  level_agree at c v within =
      ap (λ w. may_drive at (cell_at t c).kinds c w v) (wanted_found e.context (given_formulas e) laws c within)
      ∙ level_as e laws at c within (signal_on e.context c) v refl

  next_agree : (at : Levels) (c : ℕ) (v : Bool) → c < length t.cells → cell_stores e.context c ≡ true → (netlist_logic t (gathered e)).allows_next at c v ≡ (source_logic t m).allows_next at c v
  next_agree at c v within stores =
      ap (λ w. may_store at w v) (wanted_found e.context (given_formulas e) laws c within)
      ∙ next_as e laws at c within (signal_on e.context c) v stores

  reset_agree : (at : Levels) (c : ℕ) → c < length t.cells → cell_stores e.context c ≡ true → (netlist_logic t (gathered e)).reset at c ≡ (source_logic t m).reset at c
  reset_agree at c within stores = controls_agree e laws has at extension.Ar (λ (w : Wanted). w.reset) (λ c s x. refl) c within stores

  preset_agree : (at : Levels) (c : ℕ) → c < length t.cells → cell_stores e.context c ≡ true → (netlist_logic t (gathered e)).preset at c ≡ (source_logic t m).preset at c
  preset_agree at c within stores = controls_agree e laws has at extension.Sp (λ (w : Wanted). w.preset) (λ c s x. refl) c within stores

  to_cells : SameCells (netlist_logic t (gathered e)) (source_logic t m)
  to_cells = record { cells = refl; pin = λ c within. refl; stores = stores_agree; clock = refl }

  from_cells : SameCells (source_logic t m) (netlist_logic t (gathered e))
  from_cells = record { cells = refl; pin = λ c within. refl; stores = λ c within. sym (stores_agree c within); clock = refl }

  to_allows : (at : Levels) → AllowsAt (netlist_logic t (gathered e)) (source_logic t m) at at
  to_allows at = record {
    enabled = enabled_agree at;
    level = λ c within enabled v allowed. sym (level_agree at c v within) ∙ allowed;
    reset = reset_agree at;
    preset = preset_agree at;
    next = λ c within stores v allowed. sym (next_agree at c v within stores) ∙ allowed;
  }

  from_allows : (at : Levels) → AllowsAt (source_logic t m) (netlist_logic t (gathered e)) at at
  from_allows at = record {
    enabled = λ c within. sym (enabled_agree at c within);
    level = λ c within enabled v allowed. level_agree at c v within ∙ allowed;
    reset = λ c within stores. sym (reset_agree at c within (sym (stores_agree c within) ∙ stores));
    preset = λ c within stores. sym (preset_agree at c within (sym (stores_agree c within) ∙ stores));
    next = λ c within stores v allowed. next_agree at c v within (sym (stores_agree c within) ∙ stores) ∙ allowed;
  }

  to : Refines (netlist_logic t (gathered e)) (source_logic t m)
  to = record {
    same_cells = to_cells;
    is_node = λ n less. is_node_as t m n;
    allows = λ at is. to_allows at;
    node = λ at is n less v allowed. sym (node_as t m at n v) ∙ allowed;
  }

  from : Refines (source_logic t m) (netlist_logic t (gathered e))
  from = record {
    same_cells = from_cells;
    is_node = λ n less. sym (is_node_as t m n);
    allows = λ at is. from_allows at;
    node = λ at is n less v allowed. node_as t m at n v ∙ allowed;
  }

  pub means : MeansTheSame t m (netlist_of t m)
  means = record { to = to; from = from; values = λ at is n less node. value_as t m at n; free = free_agree t m laws }

pub gathered_means_the_same : GatheredMeansTheSame
gathered_means_the_same t m laws has = means t m laws has
