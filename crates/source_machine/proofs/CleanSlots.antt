-- Resets read signals that lead to no register, so they depend on no Q.
use Rattle.std.proofs.Common.{◌≡◌, ℕ, ◌+◌, ◌<◌, true, false, eqb, List, [], ◌∷◌, length, Option, Some, None, slice_get, refl, ap, sym, ◌∙◌, subst, arith, inl, inr, unwrap_or}
use Rattle.source_machine.proofs.Common.{cases_Bool, cases_lt, lt-ltb, length-map, list_any_at, slice_get_within, is_on, Levels, Slot, sets_pin, sets_node, SameAt, ResetsWithoutQ, eqb_same, IsDevice, Table, Leaf, Formula, leaf_value, names, Wanted, PlainNetlist, own_of, own_or_shared, shared_function, wanted_at, netlist_stores, is_register_signal, netlist_passes, netlist_reset_reads, netlist_waits, signal_count, signal_leaf, names_if_any, IsReadable, IsSound, value_same, pin_leaf, q_leaf, pin_is_plain, node_leaf, node_is_plain, found, IsSignalOrder, netlist_lookups, signal_slot}
use Rattle.std.specs.List.{All, list_any}
use Rattle.pld_machine.specs.declared.logic.Slot.TheVariants as slot
use Rattle.pld_machine.proofs.WithoutQ.{AgreeBefore, ReadNoQ, resets_without_q}
use Rattle.pld_order.proofs.PathSteps.{path_from, path_one}
use Rattle.bit_expr.specs.declared.node.Leaf.TheVariants as leaf
use Rattle.netlist_laws.proofs.CleanSignals.{IsCleanSignal, Clean, clean_named, reset_known}
use Rattle.netlist_laws.proofs.SharedFunctions.{OwnHas}
use Rattle.source_machine.proofs.NetlistOrdered.{unset_enable}
use Rattle.source_machine.proofs.SameSignals.{AgreesAt, cell_same, node_same}
use Rattle.source_machine.proofs.SignalPlaces.{in_signals, none_waits, pin_later, node_later, has_pins, has_slots}
use Rattle.source_machine.proofs.SignalSlots.{signal_at, of_cell_slot, of_node_slot, cell_slot, node_slot, slot_at}

module _ (t : Table) (net : PlainNetlist) where
  -- the slot is a signal that leads to no register
  abbrev pub IsCleanSlot : Slot → Type 0
  IsCleanSlot (slot.Cell c) = IsCleanSignal t net c
  IsCleanSlot (slot.Node n) = IsCleanSignal t net (length t.cells + n)

  -- a formula reads such signals alone
  abbrev pub ReadsClean : Formula → Type 0
  ReadsClean f = (l : Leaf) → names f l ≡ true → IsReadable t net l × Clean t net l

module _ (t : Table) (laws : IsDevice t) (net : PlainNetlist) (sound : IsSound t net) (order : List ℕ) (ordered : IsSignalOrder t net order) where
  -- ---- what resets read

  abbrev own : Wanted → Option Formula
  own w = w.reset

  -- a signal that resets read is clean
  read_clean : (v : ℕ) → netlist_reset_reads t net v ≡ true → IsCleanSignal t net v
  read_clean v reads path is = sound.no_path path (path_from (signal_count t net) (netlist_passes t net) (netlist_reset_reads t net) (is_register_signal t net) v path reads is)

  register : (c : ℕ) → c < length t.cells → netlist_stores t net c ≡ true → is_register_signal t net c ≡ true
  register c within kept = rw (lt-ltb c (length t.cells) within, kept) refl

  leaf_clean : (l : Leaf) → IsReadable t net l → ((v : ℕ) → signal_leaf t net v ≡ l → netlist_reset_reads t net v ≡ true) → Clean t net l
  leaf_clean (leaf.Pin pin) readable reads = λ d within same. read_clean d (reads d (pin_leaf t net d pin within same (readable.1 d within same)))
  leaf_clean (leaf.Node n) readable reads = read_clean (length t.cells + n) (reads (length t.cells + n) (node_leaf t net n))
  leaf_clean (leaf.Q c) readable reads =
      let within = readable.1.0 in
      let kept : netlist_stores t net c ≡ true = rw readable.1.2 readable.1.3 in
      sound.no_path (c ∷ [])
      (path_one (signal_count t net) (netlist_passes t net) (netlist_reset_reads t net) (is_register_signal t net) c (omega (arith, within)) (reads c (q_leaf t net c within kept)) (register c within kept))

  own_clean : All (OwnHas own (ReadsClean t net)) net.cells
  own_clean k d within f is l named =
      let readable = ((sound.cells k d within).reset f is).formula l named in
      let listed : list_any (λ (w : Wanted). names_if_any w.reset l) net.cells ≡ true =
      list_any_at (λ (w : Wanted). names_if_any w.reset l) net.cells k d within (rw is named) in
      (readable, leaf_clean l readable (λ v same. rw same listed))

  reset_clean : (c : ℕ) → ReadsClean t net (own_or_shared own net c)
  reset_clean c = by_wanted (wanted_at net c) refl
    where
      by_own : (w : Wanted) → OwnHas own (ReadsClean t net) w → (e : Option Formula) → own w ≡ e → ReadsClean t net (unwrap_or e (shared_function own net))
      by_own w has None is = reset_known t net sound
      by_own w has (Some f) is = has f is

      by_wanted : (w : Option Wanted) → wanted_at net c ≡ w → ReadsClean t net (unwrap_or (own_of own w) (shared_function own net))
      by_wanted None is = reset_known t net sound
      by_wanted (Some w) is = by_own w (found (OwnHas own (ReadsClean t net)) net.cells c w own_clean is).has (own w) refl

  -- ---- two points that agree on clean slots before a place

  module _ (a b : Levels) (i : ℕ) (agree : AgreeBefore (netlist_lookups t net order) (IsCleanSlot t net) i a b) where
    -- a clean leaf by which signals before the place are read
    leaf_same : (l : Leaf) → IsReadable t net l → Clean t net l → ((j v : ℕ) → signal_leaf t net v ≡ l → is_register_signal t net v ≡ false → slice_get order j ≡ Some v → j < i) → leaf_value a l ≡ leaf_value b l
    leaf_same (leaf.Q c) readable clean before = absurd clean
    leaf_same (leaf.Pin pin) readable clean before =
        elim (cases_Bool (sets_pin (netlist_lookups t net order) (netlist_lookups t net order).slots pin)) [
          | inl sets ↦
              let there = pin_later t laws net order ordered 0 pin sets in
              let plain = readable.1 there.cell there.within there.same in
              let less = before there.at there.cell (pin_leaf t net there.cell pin there.within there.same plain) (pin_is_plain t net there.cell there.within plain) there.is in
              subst (λ p. is_on a.pins p ≡ is_on b.pins p) there.same
              (agree.slots there.at (slot.Cell there.cell) less (slot_at t order there.at there.cell there.is ∙ ap (λ s. Some s) (cell_slot t there.cell there.within)) (clean there.cell there.within there.same))
          | inr none ↦ agree.pins pin none
        ]
    leaf_same (leaf.Node n) readable clean before =
        elim (cases_Bool (sets_node (netlist_lookups t net order).slots n)) [
          | inl sets ↦
              let there = node_later t laws net order ordered 0 n sets in
              let less = before there.at (length t.cells + n) (node_leaf t net n) (node_is_plain t net n) there.is in
              agree.slots there.at (slot.Node n) less (slot_at t order there.at (length t.cells + n) there.is ∙ ap (λ s. Some s) (node_slot t n)) clean
          | inr none ↦ agree.nodes n none
        ]

    -- what a clean signal at the place names
    agrees : (v : ℕ) → slice_get order i ≡ Some v → IsCleanSignal t net v → AgreesAt t laws net sound a b v
    agrees v here clean l readable named =
        leaf_same l readable (clean_named t net v l (in_signals t laws net order ordered i v here) clean readable named)
        (λ j w same plain there. before j w there (rw (plain, same, named) refl))
      where
        before : (j w : ℕ) → slice_get order j ≡ Some w → netlist_waits t net v w ≡ true → j < i
        before j w there waits =
            elim (cases_lt j i) [
              | inl less ↦ less
              | inr more ↦ absurd (none_waits t laws net order ordered i j v w more here there waits)
            ]

    by_slot : (s : Slot) → slice_get (netlist_lookups t net order).slots i ≡ Some s → IsCleanSlot t net s → SameAt (netlist_lookups t net order) s a b
    by_slot (slot.Cell c) at clean =
        let here = signal_at t order i (slot.Cell c) at in
        let cell = of_cell_slot t here.signal c here.slot in
        let found : slice_get order i ≡ Some c = here.is ∙ ap (λ x. Some x) cell.is in
        cell_same t laws net sound a b c cell.within (agrees c found clean)
        (λ pin by. agree.pins pin (unset_enable t laws net order ordered 0 c pin cell.within by))
        (λ kept. absurd (clean (c ∷ []) (path_one (signal_count t net) (netlist_passes t net) (eqb c) (is_register_signal t net) c (in_signals t laws net order ordered i c found) (eqb_same c) (register c cell.within kept))))
        order
    by_slot (slot.Node n) at clean =
        let here = signal_at t order i (slot.Node n) at in
        let found : slice_get order i ≡ Some (length t.cells + n) = here.is ∙ ap (λ x. Some x) (of_node_slot t here.signal n here.slot) in
        let low = in_signals t laws net order ordered i (length t.cells + n) found in
        node_same t laws net sound a b n (omega (arith, low)) (agrees (length t.cells + n) found clean)

  read_no_q : ReadNoQ (netlist_lookups t net order) (IsCleanSlot t net)
  read_no_q = record {
    slots = λ i s at clean a b agree. by_slot a b i agree s at clean;
    resets = λ c kept a b agree.
        value_same (own_or_shared own net c) a b
        (λ l named.
        let reads = reset_clean c l named in
        leaf_same a b (length (netlist_lookups t net order).slots) agree l reads.0 reads.1
        (λ j v same plain there. subst (λ n. j < n) (sym (length-map order (signal_slot t))) (slice_get_within order j v there)));
  }

  pub resets_free : ResetsWithoutQ (netlist_lookups t net order)
  resets_free = resets_without_q (netlist_lookups t net order) (has_pins t laws net order ordered) (has_slots t laws net order ordered sound.few_nodes) (IsCleanSlot t net) read_no_q
