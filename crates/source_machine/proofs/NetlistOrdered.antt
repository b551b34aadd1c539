-- No slot of a netlist reads itself or a later one.
use Rattle.std.proofs.Common.{◌≡◌, ℕ, ◌+◌, ◌<◌, false, List, length, drop, Some, slice_get, ap, sym, ◌∙◌, arith}
use Rattle.source_machine.proofs.Common.{false_from_ne_true, is_on, Levels, Slot, sets_pin, DifferOnlyIn, SameAt, ReadsEarlier, PinLow, IsDevice, Table, cell_at, no_cell, PlainNetlist, IsSound, waits_for_pin, waits_for_node, IsSignalOrder, netlist_lookups}
use Rattle.pld_machine.specs.declared.logic.Slot.TheVariants as slot
use Rattle.bit_expr.specs.declared.node.Leaf.TheVariants as leaf
use Rattle.source_machine.proofs.SameSignals.{AgreesAt, cell_same, node_same}
use Rattle.source_machine.proofs.SignalPlaces.{in_signals, none_waits, pin_later, node_later}
use Rattle.source_machine.proofs.SignalSlots.{signal_at, of_cell_slot, of_node_slot}

module _ (t : Table) (laws : IsDevice t) (net : PlainNetlist) (order : List ℕ) (ordered : IsSignalOrder t net order) where
  -- no slot sets a pin that enables a cell
  pub unset_enable : (i c pin : ℕ) → c < length t.cells → (cell_at t c).enable ≡ PinLow pin → sets_pin (netlist_lookups t net order) (drop i (netlist_lookups t net order).slots) pin ≡ false
  unset_enable i c pin within by = false_from_ne_true _ (λ sets.
      let there = pin_later t laws net order ordered i pin sets in
      (laws.cells there.cell no_cell there.within).enables_none c no_cell within (by ∙ ap (λ p. PinLow p) (sym there.same)))

  module _ (sound : IsSound t net) (i : ℕ) (a b : Levels) (differ : DifferOnlyIn (netlist_lookups t net order) (drop i (netlist_lookups t net order).slots) a b) where
    -- what the signal at the place names
    agrees : (v : ℕ) → slice_get order i ≡ Some v → AgreesAt t laws net sound a b v
    agrees v here (leaf.Q c) readable named = ap (λ q. is_on q c) differ.q
    agrees v here (leaf.Pin pin) readable named =
        differ.pins pin
        (false_from_ne_true _ (λ sets.
        let there = pin_later t laws net order ordered i pin sets in
        none_waits t laws net order ordered i there.at v there.cell there.later here there.is
        (waits_for_pin t net v there.cell pin there.within there.same (readable.1 there.cell there.within there.same) named)))
    agrees v here (leaf.Node n) readable named =
        differ.nodes n
        (false_from_ne_true _ (λ sets.
        let there = node_later t laws net order ordered i n sets in
        none_waits t laws net order ordered i there.at v (length t.cells + n) there.later here there.is (waits_for_node t net v n named)))

    by_slot : (s : Slot) → slice_get (netlist_lookups t net order).slots i ≡ Some s → SameAt (netlist_lookups t net order) s a b
    by_slot (slot.Cell c) at =
        let here = signal_at t order i (slot.Cell c) at in
        let cell = of_cell_slot t here.signal c here.slot in
        cell_same t laws net sound a b c cell.within (agrees c (here.is ∙ ap (λ x. Some x) cell.is))
        (λ pin by. differ.pins pin (unset_enable i c pin cell.within by))
        (λ kept. ap (λ q. is_on q c) differ.q)
        order
    by_slot (slot.Node n) at =
        let here = signal_at t order i (slot.Node n) at in
        let found : slice_get order i ≡ Some (length t.cells + n) = here.is ∙ ap (λ x. Some x) (of_node_slot t here.signal n here.slot) in
        let low = in_signals t laws net order ordered i (length t.cells + n) found in
        node_same t laws net sound a b n (omega (arith, low)) (agrees (length t.cells + n) found)

  pub reads_earlier : IsSound t net → ReadsEarlier (netlist_lookups t net order)
  reads_earlier sound i s at a b differ = by_slot sound i a b differ s at
