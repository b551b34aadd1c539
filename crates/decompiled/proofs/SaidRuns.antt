-- The source of a device's fuses says what the device does.
use Rattle.std.proofs.Common.{◌≡◌, ℕ, suc, ◌<◌, ◌≤◌, Bool, true, false, ◌&&◌, if◌then◌else◌, Option, None, List, [], ◌∷◌, length, unwrap_or, refl, sym, ap, ap₂, ◌∙◌, inl, inr, arith}
use Rattle.decompiled.proofs.Common.{cases_Bool, cases_lt, get_or_past, Logic, Levels, AllowsOne, DoesTheSame, HasNoDontCare, NodeValues, SameValues, Refines, IsDetermined, Cell, IsDevice, device_logic, is_inverted, says, stores, stores_by, Table, cell_at, no_cell, registered_at, ModuleTree, inverting, is_free_signal, signal_on, design_of, netlist_logic, netlist_values, PlainNetlist, source_logic, source_values, netlist_of, IsSourceTree, has_lines, source_of, AreAlike, HasRowSizes, ReadsPairs, leaf_of}
use Rattle.pld_machine.specs.Exchanged.{exchanged, exchanged_at, exchanged_from, exchanged_values, in_sense}
use Rattle.pld_machine.proofs.OtherSource.{other_source}
use Rattle.pld_device.specs.declared.carry.Carry.TheVariants as carry
use Rattle.device_logic.proofs.OneRun.{device_determined}
use Rattle.bit_expr.specs.declared.node.Leaf.TheVariants as leaf
use Rattle.netlist_laws.specs.FittedCorrect.{DoesWhatItSays, MeansTheSame}
use Rattle.netlist_laws.proofs.BoolLaws.{both_ways}
use Rattle.netlist_laws.proofs.Meaning.{gathered_means_the_same}
use Rattle.decompiled.proofs.RowSizes.{row_size}
use Rattle.decompiled.proofs.AlikeLogics.{alike}
use Rattle.decompiled.proofs.FusesNetlists.{is_of_fuses}
use Rattle.decompiled.proofs.PinWords.{cell_name}
use Rattle.decompiled.proofs.SignalsOn.{lines_declare, on_it, on_none, registers_have_cells}
use Rattle.decompiled.proofs.SourceReads.{cell_here}
use Rattle.decompiled.specs.Runs.{SourcesSayWhatFusesDo}
use Rattle.decompiled.proofs.NetlistRuns.{netlist_same}

-- ---- a choice that inverts nothing

module _ (x : ℕ → Bool) (none : (c : ℕ) → x c ≡ false) where
  same_qs : (c : ℕ) (qs : List Bool) → exchanged_from x c qs ≡ qs
  same_qs c [] = refl
  same_qs c (q ∷ qs) = ap₂ (λ p ps. p ∷ ps) (ap (λ b. in_sense b q) (none c)) (same_qs (suc c) qs)

  same_at : (at : Levels) → exchanged_at x at ≡ at
  same_at at = ap (λ qs. let z : Levels = record { pins = at.pins; q = qs; nodes = at.nodes } in z) (same_qs 0 at.q)

  module _ (m : Logic) where
    unchanged : Refines (exchanged x m) m
    unchanged = record {
      same_cells = record { cells = refl; pin = λ c within. refl; stores = λ c within. refl; clock = refl };
      is_node = λ n low. refl;
      allows = λ at is. record {
        enabled = λ c within. ap (λ a. m.enabled a c) (same_at at);
        level = λ c within on v allowed. sym (ap (λ a. m.allows_level a c v) (same_at at)) ∙ allowed;
        reset = λ c within kept. ap (λ a. m.reset a c) (same_at at);
        preset = λ c within kept. ap (λ a. m.preset a c) (same_at at);
        next = λ c within kept v allowed. sym (ap₂ (λ a b. m.allows_next a c (in_sense b v)) (same_at at) (none c)) ∙ allowed;
      };
      node = λ at is n low v allowed. sym (ap (λ a. m.allows_node a n v) (same_at at)) ∙ allowed;
    }

    unchanged_back : Refines m (exchanged x m)
    unchanged_back = record {
      same_cells = record { cells = refl; pin = λ c within. refl; stores = λ c within. refl; clock = refl };
      is_node = λ n low. refl;
      allows = λ at is. record {
        enabled = λ c within. sym (ap (λ a. m.enabled a c) (same_at at));
        level = λ c within on v allowed. ap (λ a. m.allows_level a c v) (same_at at) ∙ allowed;
        reset = λ c within kept. sym (ap (λ a. m.reset a c) (same_at at));
        preset = λ c within kept. sym (ap (λ a. m.preset a c) (same_at at));
        next = λ c within kept v allowed. ap₂ (λ a b. m.allows_next a c (in_sense b v)) (same_at at) (none c) ∙ allowed;
      };
      node = λ at is n low v allowed. ap (λ a. m.allows_node a n v) (same_at at) ∙ allowed;
    }

    same_values : (values : NodeValues) → SameValues m values (exchanged_values x values)
    same_values values at is n low node = sym (ap (λ a. values a n) (same_at at))

-- ---- what allows the same has a don't-care if the other has

same_tests : (f g : Bool → Bool) → ((v : Bool) → f v ≡ true → g v ≡ true) → ((v : Bool) → g v ≡ true → f v ≡ true) → AllowsOne f → AllowsOne g
same_tests f g to from one e = one (both_ways (f true) (g true) (to true) (from true) ∙ e ∙ sym (both_ways (f false) (g false) (to false) (from false)))

no_dontcare_too : (d s : Logic) → d.cells ≡ s.cells → Refines d s → Refines s d → HasNoDontCare d → HasNoDontCare s
no_dontcare_too d s cells to from one = record {
  level = λ at is c within on.
      let c_in : c < d.cells = rw cells within in
      let d_on : d.enabled at c ≡ true = (to.allows at is).enabled c within ∙ on in
      same_tests (d.allows_level at c) (s.allows_level at c) ((to.allows at is).level c within on) ((from.allows at is).level c c_in d_on) (one.level at is c c_in d_on);
  node = λ at is n low on.
      let d_on : d.is_node n ≡ true = to.is_node n low ∙ on in
      same_tests (d.allows_node at n) (s.allows_node at n) (to.node at is n low) (from.node at is n low) (one.node at is n low d_on);
  next = λ at is c within on.
      let c_in : c < d.cells = rw cells within in
      let d_on : d.stores c ≡ true = to.same_cells.stores c within ∙ on in
      same_tests (d.allows_next at c) (s.allows_next at c) ((to.allows at is).next c within on) ((from.allows at is).next c c_in d_on) (one.next at is c c_in d_on);
}

-- ---- a decompiled source

-- each column is read as the leaf of its pair
reads_pairs : (t : Table) (fuses : List Bool) → IsDevice t → ReadsPairs t fuses (leaf_of t)
reads_pairs t fuses laws higher (carry.Pin pin) = refl
reads_pairs t fuses laws higher (carry.Cell c) = elim (cases_lt c (length t.cells)) [
  | inl within ↦ ap (λ (o : Option ℕ). if stores t fuses c then leaf.Q (unwrap_or o 0) else leaf.Pin (cell_at t c).pin) (cell_here t laws c within)
  | inr past ↦ rw (plain past) refl
]
  where
    plain : length t.cells ≤ c → stores t fuses c ≡ false
    plain past = ap (λ (cell : Cell). stores_by cell.kinds (says fuses (registered_at t c))) (get_or_past t.cells c no_cell past)

row_sizes : (t : Table) (fuses : List Bool) → IsDevice t → length fuses ≡ t.fuses → HasRowSizes t fuses
row_sizes t fuses laws long row within = row_size t fuses row laws long within ∙ sym laws.sizes.columns_even

module _ (t : Table) (fuses : List Bool) (m : ModuleTree) (laws : IsDevice t) (long : length fuses ≡ t.fuses) (is : IsSourceTree (source_of t fuses) m) where
  abbrev net : PlainNetlist
  net = netlist_of t m

  abbrev device : Logic
  device = device_logic t fuses

  abbrev source : Logic
  source = source_logic t m

  same_logics : AreAlike t fuses net
  same_logics = alike t fuses (leaf_of t) net laws (row_sizes t fuses laws long) (reads_pairs t fuses laws) (is_of_fuses t fuses laws m is)

  means : MeansTheSame t m net
  means = gathered_means_the_same t m laws (registers_have_cells t fuses laws m is)

  pub one_value : HasNoDontCare source
  one_value = no_dontcare_too (netlist_logic t net) source refl means.to means.from same_logics.one_value

  -- no register is free
  none_free : (c : ℕ) → inverting (is_inverted t fuses) (design_of t m).context c ≡ false
  none_free c = elim (cases_lt c (length t.cells)) [
    | inl within ↦ elim (cases_Bool (has_lines t fuses c)) [
      | inl some ↦
          let x = cell_name t fuses laws m is c within (lines_declare t fuses laws c within some) in
          ap (λ (o : Option ℕ). is_free_signal (design_of t m).context o && is_inverted t fuses c) (on_it t fuses laws m is c within some)
          ∙ ap (λ (b : Bool). b && is_inverted t fuses c) x.free
      | inr none ↦ ap (λ (o : Option ℕ). is_free_signal (design_of t m).context o && is_inverted t fuses c) (on_none t fuses laws m is c within none)
    ]
    | inr past ↦ ap (λ (b : Bool). is_free_signal (design_of t m).context (signal_on (design_of t m).context c) && b) (plain past) ∙ and_false (is_free_signal (design_of t m).context (signal_on (design_of t m).context c))
  ]
    where
      plain : length t.cells ≤ c → is_inverted t fuses c ≡ false
      plain past = let end = laws.inverted_end in ap (says fuses) (get_or_past t.inverted c None (omega (arith, past, end)))

      and_false : (b : Bool) → (b && false) ≡ false
      and_false true = refl
      and_false false = refl

  no_node : (n : ℕ) → n < 128 → (netlist_logic t net).is_node n ≡ false
  no_node n low = sym (same_logics.to.is_node n low)

  module _ (once : IsDetermined device) where
    as_netlist : DoesTheSame device (netlist_logic t net) (netlist_values net)
    as_netlist = netlist_same t fuses net no_node same_logics.to once

    as_source : DoesTheSame device source (source_values t m)
    as_source = other_source (netlist_logic t net) source means.to means.from (netlist_values net) (source_values t m) means.values device as_netlist

    pub as_chosen : DoesWhatItSays t m fuses
    as_chosen =
        let x = inverting (is_inverted t fuses) (design_of t m).context in
        other_source source (exchanged x source) (unchanged_back x none_free source) (unchanged x none_free source) (source_values t m) (exchanged_values x (source_values t m))
        (same_values x none_free source (source_values t m)) device as_source

pub say_what_they_do : SourcesSayWhatFusesDo
say_what_they_do t fuses m laws long is no_loop no_path = record {
  one_value = one_value t fuses m laws long is;
  does = as_chosen t fuses m laws long is (device_determined t fuses laws no_loop no_path);
}
