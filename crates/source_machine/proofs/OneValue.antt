-- A netlist with any as 0 allows nothing that the netlist doesn't allow; in an order of its signals it is a logic that
-- the machine takes.
use Rattle.std.proofs.Common.{◌≡◌, ℕ, Bool, true, false, not, ◌&&◌, if◌then◌else◌, List, Option, Some, None, refl, ap, ◌∙◌, subst}
use Rattle.source_machine.proofs.Common.{is_on, same_level, Levels, IsOrdered, HasRunsOf, Refines, IsDetermined, is_determined, IsDevice, complement_if, Table, ModuleTree, Function, allows, allows_plain, value_with_any_0, Wanted, PlainNetlist, as_named, function_at, node_at, wanted_at, may_drive, may_store, netlist_logic, netlist_values, IsSound, source_logic, MeansTheSame, data_with_any_0, level_with_any_0, next_with_any_0, netlist_with_any_0, IsSignalOrder, netlist_lookups, cell_at}
use Rattle.pld_machine.proofs.Refined.{run_refines}
use Rattle.netlist_laws.proofs.BoolLaws.{level_is}
use Rattle.source_machine.proofs.CleanSlots.{resets_free}
use Rattle.source_machine.proofs.NetlistOrdered.{reads_earlier}
use Rattle.source_machine.proofs.SignalPlaces.{has_pins, has_slots, same_logic}
use Rattle.pld_device.specs.declared.kinds.Kinds.{Kinds}

module _ (t : Table) (laws : IsDevice t) (net : PlainNetlist) (sound : IsSound t net) (order : List ℕ) (ordered : IsSignalOrder t net order) where
  pub is_ordered : IsOrdered (netlist_lookups t net order)
  is_ordered = record {
    has_pins = has_pins t laws net order ordered;
    has_slots = has_slots t laws net order ordered sound.few_nodes;
    reads = reads_earlier t laws net order ordered sound;
    resets = resets_free t laws net sound order ordered;
  }

  pub determined : IsDetermined (netlist_with_any_0 t net)
  determined = subst IsDetermined (same_logic t laws net order ordered) (is_determined (netlist_lookups t net order) is_ordered)

-- ---- what it allows

allows_own : (one any complement : Bool) → allows_plain one any (complement_if complement (complement_if complement one)) ≡ true
allows_own true true true = refl
allows_own true true false = refl
allows_own true false true = refl
allows_own true false false = refl
allows_own false true true = refl
allows_own false true false = refl
allows_own false false true = refl
allows_own false false false = refl

-- the value with any as 0 is one that is allowed
allows_value : (f : Function Bool) → allows f (value_with_any_0 f) ≡ true
allows_value f = allows_own f.one f.any f.complement

twice : (raw negated turned x : Bool) → (if raw then (if raw then x else complement_if negated (complement_if turned x)) else complement_if negated (complement_if turned (if raw then x else complement_if negated (complement_if turned x)))) ≡ x
twice true negated turned x = refl
twice false true true true = refl
twice false true true false = refl
twice false true false true = refl
twice false true false false = refl
twice false false true true = refl
twice false false true false = refl
twice false false false true = refl
twice false false false false = refl

-- so is the level, or next Q, that makes it
allows_data : (at : Levels) (w : Wanted) (v : Bool) → same_level v (data_with_any_0 at w) ≡ true → allows (function_at at w.function) (as_named w v) ≡ true
allows_data at w v same =
    ap (λ x. allows (function_at at w.function) (as_named w x)) (level_is v (data_with_any_0 at w) same)
    ∙ ap (allows (function_at at w.function)) (twice w.raw w.negated (w.registered && not w.buffer) (value_with_any_0 (function_at at w.function)))
    ∙ allows_value (function_at at w.function)

level_allowed : (at : Levels) (kinds : Kinds) (c : ℕ) (found : Option Wanted) (v : Bool) → same_level v (level_with_any_0 at kinds c found) ≡ true → may_drive at kinds c found v ≡ true
level_allowed at kinds c None v same = same
level_allowed at kinds c (Some w) v same =
    by_kind w.registered (same_level v (complement_if (not w.buffer) (is_on at.q c))) (same_level v (data_with_any_0 at w)) (allows (function_at at w.function) (as_named w v))
    (allows_data at w v) (chosen w.registered ∙ same)
  where
    by_kind : (r x y z : Bool) → (y ≡ true → z ≡ true) → (if r then x else y) ≡ true → (if r then x else z) ≡ true
    by_kind true x y z more is = is
    by_kind false x y z more is = more is

    chosen : (r : Bool) → (if r then same_level v (complement_if (not w.buffer) (is_on at.q c)) else same_level v (data_with_any_0 at w)) ≡ same_level v (if r then complement_if (not w.buffer) (is_on at.q c) else data_with_any_0 at w)
    chosen true = refl
    chosen false = refl

next_allowed : (at : Levels) (found : Option Wanted) (v : Bool) → same_level v (next_with_any_0 at found) ≡ true → may_store at found v ≡ true
next_allowed at None v same = ap not (level_is v false same)
next_allowed at (Some w) v same = allows_data at w v same

pub refines : (t : Table) (net : PlainNetlist) → Refines (netlist_with_any_0 t net) (netlist_logic t net)
refines t net = record {
  same_cells = record { cells = refl; pin = λ c within. refl; stores = λ c within. refl; clock = refl };
  is_node = λ n low. refl;
  allows = λ at is. record {
    enabled = λ c within. refl;
    level = λ c within on v same. level_allowed at (cell_at t c).kinds c (wanted_at net c) v same;
    reset = λ c within stores. refl;
    preset = λ c within stores. refl;
    next = λ c within stores v same. next_allowed at (wanted_at net c) v same;
  };
  node = λ at is n low v same. ap (allows (function_at at (node_at net n))) (level_is v (netlist_values net at n) same) ∙ allows_value (function_at at (node_at net n));
}

-- its runs are runs of every module that means the same
pub runs_of_module : (t : Table) (m : ModuleTree) (net : PlainNetlist) → MeansTheSame t m net → HasRunsOf (source_logic t m) (netlist_with_any_0 t net)
runs_of_module t m net means outsides points run =
    run_refines (netlist_logic t net) (source_logic t m) means.to outsides points
    (run_refines (netlist_with_any_0 t net) (netlist_logic t net) (refines t net) outsides points run)
