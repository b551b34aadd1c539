-- The places of a netlist's signals in an order: each has one, and what is set from a place on.
use Rattle.std.proofs.Common.{◌≡◌, ℕ, zero, suc, ◌+◌, ◌<◌, ◌≤◌, Bool, true, false, eqb, nat_lt, List, [], ◌∷◌, map, length, drop, get_or, Some, slice_get, refl, ap, sym, ◌∙◌, arith, inl, inr, IsTrue}
use Rattle.source_machine.proofs.Common.{fun_ext, cases_Bool, cases_lt, eq-eqb, ltb-true, ltb-false, or_right, true≢false, list_any_at, get_or_from_slice_get, slice_get_within, slice_get-get_or, Slot, sets_pin, sets_node, logic_of, InRange, HasPins, HasSlots, Logic, eqb_same, place_of, IsDevice, Table, cell_at, own_pins, PlainNetlist, netlist_waits, signal_count, netlist_with_any_0, IsSignalOrder, netlist_lookups, signal_slot}
use Rattle.std.proofs.lemmas.Map.Keys.{apart_from_distinct}
use Rattle.pld_machine.specs.declared.logic.Slot.TheVariants as slot
use Rattle.pld_machine.proofs.Ordered.{setter_of_pin, setter_of_node, get_behind, pin_set}
use Rattle.source_machine.proofs.SignalSlots.{cell_slot, node_slot, of_cell_slot, of_node_slot, slot_at, signal_at}

-- a signal that is once has one place
once_at : (order : List ℕ) (i j v : ℕ) → ((a b : ℕ) → a < b → b < length order → eqb (get_or order a 0) (get_or order b 0) ≡ false) → slice_get order i ≡ Some v → slice_get order j ≡ Some v → i ≡ j
once_at order i j v apart here there =
    elim (cases_lt i j) [
      | inl less ↦ absurd (twice i j less here there)
      | inr more ↦ elim (cases_lt j i) [ inl less ↦ absurd (twice j i less there here) | inr also ↦ omega arith ]
    ]
  where
    twice : (a b : ℕ) → a < b → slice_get order a ≡ Some v → slice_get order b ≡ Some v → ⊥
    twice a b less first second =
        let same : get_or order a 0 ≡ get_or order b 0 = get_or_from_slice_get order a v 0 first ∙ sym (get_or_from_slice_get order b v 0 second) in
        true≢false (sym (eq-eqb (get_or order a 0) (get_or order b 0) same) ∙ apart a b less (slice_get_within order b v second))

-- a node that is listed is set
node_is_set : (t : Table) (order : List ℕ) (n : ℕ) → (i : ℕ) → slice_get order i ≡ Some (length t.cells + n) → sets_node (map (signal_slot t) order) n ≡ true
node_is_set t order n i found = set_by (map (signal_slot t) order) i (slot_at t order i (length t.cells + n) found ∙ ap (λ s. Some s) (node_slot t n))
  where
    same_some : (a b : Slot) → Some a ≡ Some b → a ≡ b
    same_some a b e = cc

    set_by : (slots : List Slot) (j : ℕ) → slice_get slots j ≡ Some (slot.Node n) → sets_node slots n ≡ true
    set_by [] j at = absurd cc
    set_by (s ∷ slots) zero at = rw (same_some s (slot.Node n) at, eqb_same n) refl
    set_by (slot.Cell c ∷ slots) (suc j) at = set_by slots j at
    set_by (slot.Node k ∷ slots) (suc j) at = or_right (eqb k n) (sets_node slots n) (set_by slots j at)

module _ (t : Table) (laws : IsDevice t) (net : PlainNetlist) (order : List ℕ) (ordered : IsSignalOrder t net order) where
  pub in_signals : (j v : ℕ) → slice_get order j ≡ Some v → v < signal_count t net
  in_signals j v there =
      ordered.inside v (list_any_at (λ x. eqb v x) order j 0 (slice_get_within order j v there) (eq-eqb v (get_or order j 0) (sym (get_or_from_slice_get order j v 0 there))))

  place_at : (v : ℕ) → v < signal_count t net → (i : ℕ) × (slice_get order i ≡ Some v)
  place_at v within =
      let place = place_of order v (ordered.each v within) in
      (place.0, slice_get-get_or order place.0 0 place.1 ∙ ap (λ x. Some x) place.2)

  -- no signal waits for one that is with it or after it
  pub none_waits : (i j v w : ℕ) → i ≤ j → slice_get order i ≡ Some v → slice_get order j ≡ Some w → netlist_waits t net v w ≡ true → ⊥
  none_waits i j v w le here there waits =
      let none : netlist_waits t net (get_or order i 0) (get_or order j 0) ≡ false = ordered.earlier i j le (slice_get_within order j w there) in
      true≢false (sym waits ∙ (rw (get_or_from_slice_get order i v 0 here, get_or_from_slice_get order j w 0 there) at none))

  -- what a place from i on sets
  pub record PinLater (i pin : ℕ) : Type 0 where
    pub at : ℕ
    pub cell : ℕ
    pub later : i ≤ at
    pub is : slice_get order at ≡ Some cell
    pub within : cell < length t.cells
    pub same : (cell_at t cell).pin ≡ pin

  pub pin_later : (i pin : ℕ) → sets_pin (netlist_lookups t net order) (drop i (netlist_lookups t net order).slots) pin ≡ true → PinLater i pin
  pin_later i pin sets =
      let setter = setter_of_pin (netlist_lookups t net order) (drop i (netlist_lookups t net order).slots) pin sets in
      let there = signal_at t order (i + setter.at) (slot.Cell setter.cell) (sym (get_behind (netlist_lookups t net order).slots i setter.at) ∙ setter.is) in
      let cell = of_cell_slot t there.signal setter.cell there.slot in
      record {
        at = i + setter.at;
        cell = setter.cell;
        later = omega arith;
        is = there.is ∙ ap (λ x. Some x) cell.is;
        within = cell.within;
        same = setter.pin;
      }

  pub record NodeLater (i n : ℕ) : Type 0 where
    pub at : ℕ
    pub later : i ≤ at
    pub is : slice_get order at ≡ Some (length t.cells + n)

  pub node_later : (i n : ℕ) → sets_node (drop i (netlist_lookups t net order).slots) n ≡ true → NodeLater i n
  node_later i n sets =
      let setter = setter_of_node (drop i (netlist_lookups t net order).slots) n sets in
      let there = signal_at t order (i + setter.at) (slot.Node n) (sym (get_behind (netlist_lookups t net order).slots i setter.at) ∙ setter.is) in
      record {
        at = i + setter.at;
        later = omega arith;
        is = there.is ∙ ap (λ x. Some x) (of_node_slot t there.signal n there.slot);
      }

  pub has_pins : HasPins (netlist_lookups t net order)
  has_pins =
      let own = own_pins t laws in
      record { cells = own.cells; first = own.first; last = own.last; no_clock = own.no_clock; apart = own.apart; clock = own.clock }

  in_range : length net.nodes ≤ 128 → (s : Slot) (v : ℕ) → v < signal_count t net → signal_slot t v ≡ s → InRange (netlist_lookups t net order) s
  in_range few (slot.Cell c) v within e = (of_cell_slot t v c e).within
  in_range few (slot.Node n) v within e = let at = of_node_slot t v n e in omega (arith, few, within, at)

  same_signal : (v w : ℕ) (s : Slot) → signal_slot t v ≡ s → signal_slot t w ≡ s → v ≡ w
  same_signal v w (slot.Cell c) e f = (of_cell_slot t v c e).is ∙ sym (of_cell_slot t w c f).is
  same_signal v w (slot.Node n) e f = of_node_slot t v n e ∙ sym (of_node_slot t w n f)

  pub has_slots : length net.nodes ≤ 128 → HasSlots (netlist_lookups t net order)
  has_slots few = record {
    range = λ i s found.
        let here = signal_at t order i s found in
        in_range few s here.signal (in_signals i here.signal here.is) here.slot;
    each = λ c within.
        let place = place_at c (omega (arith, within)) in
        pin_set (netlist_lookups t net order) (netlist_lookups t net order).slots place.0 c (slot_at t order place.0 c place.1 ∙ ap (λ s. Some s) (cell_slot t c within));
    once = λ i j s here there.
        let first = signal_at t order i s here in
        let second = signal_at t order j s there in
        once_at order i j first.signal (λ a b less low. apart_from_distinct eqb order a b 0 ordered.once less low) first.is
        (second.is ∙ ap (λ x. Some x) (same_signal second.signal first.signal s second.slot first.slot));
  }

  -- ---- the logic

  -- the nodes are those of the netlist
  pub same_nodes : (n : ℕ) → sets_node (netlist_lookups t net order).slots n ≡ nat_lt n (length net.nodes)
  same_nodes n =
      elim (cases_Bool (nat_lt n (length net.nodes))) [
        | inl less ↦
            let within = ltb-true n (length net.nodes) less in
            let place = place_at (length t.cells + n) (omega (arith, within)) in
            node_is_set t order n place.0 place.1 ∙ sym less
        | inr more ↦ elim (cases_Bool (sets_node (netlist_lookups t net order).slots n)) [
          | inl sets ↦
              let there = node_later 0 n sets in
              let low = in_signals there.at (length t.cells + n) there.is in
              let past = ltb-false n (length net.nodes) more in
              absurd (omega (arith, low, past))
          | inr none ↦ none ∙ sym more
        ]
      ]

  -- a node that is set is one of the netlist
  pub node_within : (n : ℕ) → IsTrue (sets_node (netlist_lookups t net order).slots n) → n < length net.nodes
  node_within n sets = ltb-true n (length net.nodes) (sym (same_nodes n) ∙ sets)

-- the logic with any as 0, except for what is a node
with_nodes : Table → PlainNetlist → (ℕ → Bool) → Logic
with_nodes t net nodes = record (netlist_with_any_0 t net) { is_node = nodes }

-- the machine's logic is that one
pub same_logic : (t : Table) (laws : IsDevice t) (net : PlainNetlist) (order : List ℕ) → IsSignalOrder t net order → logic_of (netlist_lookups t net order) ≡ netlist_with_any_0 t net
unfolding with_nodes
same_logic t laws net order ordered = ap (with_nodes t net) (fun_ext (same_nodes t laws net order ordered))
