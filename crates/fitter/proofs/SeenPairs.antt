-- At a point with valued nodes the pairs see levels that carry all that can be read.
use Rattle.std.proofs.Common.{◌≡◌, ℕ, ◌<◌, Bool, true, false, if◌then◌else◌, List, length, map, get_or, refl, sym, ap, ◌∙◌}
use Rattle.fitter.proofs.Common.{get_or-map, length-map, get_or_from_slice_get, slice_get_within, is_on, Levels, Carry, IsDevice, IsPair, pin_carried, Table, cell_at, Netlist, Formula, PlainNetlist, plain_netlist, netlist_stores, IsSoundNetlist, IsReadable, IsSoundFormula, IsValuedFor, Carries, pair_of}
use Rattle.pld_device.specs.declared.carry.Carry.TheVariants as carry
use Rattle.bit_expr.specs.declared.node.Leaf.TheVariants as leaf
use Rattle.fitter.proofs.CarriedPoints.{carries_all}
use Rattle.fitter.proofs.LeafPairs.{cell_pair, pair_low, pin_at, pin_pair}

-- the leaf of a pair: a pin's level, or the Q of a register
abbrev pub seen_at : Table → PlainNetlist → Levels → Carry → Bool
seen_at t net at (carry.Pin p) = is_on at.pins p
seen_at t net at (carry.Cell c) = if netlist_stores t net c then is_on at.q c else is_on at.pins (cell_at t c).pin

abbrev pub seen_pairs : Table → PlainNetlist → Levels → List Bool
seen_pairs t net at = map (seen_at t net at) t.pairs

module _ (t : Table) (laws : IsDevice t) (net : Netlist) (sound : IsSoundNetlist t net) (at : Levels) where
  pub seen_long : length (seen_pairs t (plain_netlist net) at) ≡ length t.pairs
  seen_long = length-map t.pairs (seen_at t (plain_netlist net) at)

  entry_at : (v : ℕ) → v < length t.pairs → is_on (seen_pairs t (plain_netlist net) at) v ≡ seen_at t (plain_netlist net) at (get_or t.pairs v (carry.Pin 0))
  entry_at v low = get_or-map (seen_at t (plain_netlist net) at) t.pairs v (carry.Pin 0) false low

  pin_seen : (p : ℕ) → IsReadable t (plain_netlist net) (leaf.Pin p) → is_on (seen_pairs t (plain_netlist net) at) (pair_of net (leaf.Pin p)) ≡ is_on at.pins p
  pin_seen p readable =
      let pair = readable.0.0 in
      let is = readable.0.1 in
      ap (is_on (seen_pairs t (plain_netlist net) at)) (pin_pair t laws net sound p pair is)
      ∙ (entry_at pair (pair_low t laws p pair is)
      ∙ by_carry (get_or t.pairs pair (carry.Pin 0)) (laws.pairs pair (carry.Pin 0) (pair_low t laws p pair is)) (pin_at t laws p pair is))
    where
      by_carry : (x : Carry) → IsPair t x → pin_carried t x ≡ p → seen_at t (plain_netlist net) at x ≡ is_on at.pins p
      by_carry (carry.Pin q) law same = ap (is_on at.pins) same
      by_carry (carry.Cell c) law same = rw (readable.1 c law same) (ap (is_on at.pins) same)

  q_seen : (c : ℕ) → IsReadable t (plain_netlist net) (leaf.Q c) → is_on (seen_pairs t (plain_netlist net) at) (pair_of net (leaf.Q c)) ≡ is_on at.q c
  q_seen c readable =
      let pair = readable.0.0 in
      let there = readable.0.1 in
      let kept : netlist_stores t (plain_netlist net) c ≡ true = rw readable.1.2 readable.1.3 in
      let x_is : get_or t.pairs pair (carry.Pin 0) ≡ carry.Cell c = get_or_from_slice_get t.pairs pair (carry.Cell c) (carry.Pin 0) there in
      let own : seen_at t (plain_netlist net) at (carry.Cell c) ≡ is_on at.q c = rw kept refl in
      ap (is_on (seen_pairs t (plain_netlist net) at)) (cell_pair t laws net sound c pair readable.1.0 there)
      ∙ (entry_at pair (slice_get_within t.pairs pair (carry.Cell c) there) ∙ (ap (seen_at t (plain_netlist net) at) x_is ∙ own))

  pub seen_carries : IsValuedFor t (plain_netlist net) at → (f : Formula) → IsSoundFormula t (plain_netlist net) f → Carries net at (seen_pairs t (plain_netlist net) at) f
  seen_carries is f readable = carries_all t laws net sound at (seen_pairs t (plain_netlist net) at) seen_long is pin_seen q_seen f readable
