-- The pair of a leaf that can be read is the device's, wherever the netlist keeps it.
use Rattle.std.proofs.Common.{◌≡◌, ◌≢◌, ℕ, ◌<◌, ◌≤◌, Bool, true, false, ◌==◌, List, length, get_or, slice_get, Some, refl, sym, ap, ◌∙◌, arith, inl, inr, position, unwrap_or}
use Rattle.fitter.proofs.Common.{cases_Bool, cases_lt, eq-eqb, eqb-true, lt-ltb, true≢false, get_or-map, get_or_past, length-map, get_or_from_slice_get, slice_get-get_or, slice_get_within, Carry, IsDevice, IsPair, IsPairOf, pair_pins, pin_carried, carries_cell, Table, cell_at, no_cell, pairs_apart, Netlist, plain_netlist, IsSoundNetlist, no_pair, pair_of_cell, pair_of_pin, IsReadable, pair_of}
use Rattle.std.proofs.lemmas.List.Sums.{position_or_len_is}
use Rattle.pld_device.specs.declared.carry.Carry.TheVariants as carry
use Rattle.bit_expr.specs.declared.node.Leaf.TheVariants as leaf

-- ---- places

found_at : {X : Type 0} (test : X → Bool) (xs : List X) (i : ℕ) (d : X) → i < length xs → ((k : ℕ) → k < i → test (get_or xs k d) ≡ false)
    → test (get_or xs i d) ≡ true → position test xs ≡ Some i
found_at test xs i d within before here =
    let place = position_or_len_is test xs i d (omega arith) before (λ less. here) in
    rw (place, lt-ltb i (length xs) within) refl

-- an entry that isn't what is past the end is there
pub other_default : (xs : List ℕ) (k d e v : ℕ) → get_or xs k d ≡ v → v ≢ d → get_or xs k e ≡ v
other_default xs k d e v is apart =
    elim (cases_lt k (length xs)) [
      | inl within ↦ get_or_from_slice_get xs k (get_or xs k d) e (slice_get-get_or xs k d within) ∙ is
      | inr past ↦ absurd (apart (sym is ∙ get_or_past xs k d past))
    ]

carries_is : (c : ℕ) (x : Carry) → carries_cell c x ≡ true → x ≡ carry.Cell c
carries_is c (carry.Pin p) on = absurd (true≢false (sym on))
carries_is c (carry.Cell d) on = ap (λ i. carry.Cell i) (eqb-true d c on)

carries_on : (c : ℕ) (x : Carry) → x ≡ carry.Cell c → carries_cell c x ≡ true
carries_on c x is = rw is (eq-eqb c c refl)

module _ (t : Table) (laws : IsDevice t) where
  -- ---- pins

  pin_position : (p pair : ℕ) → IsPairOf t p pair → position (λ (q : ℕ). q == p) (pair_pins t) ≡ Some pair
  pin_position p pair is =
      found_at (λ (q : ℕ). q == p) (pair_pins t) pair 0 (slice_get_within (pair_pins t) pair p is) earlier
      (eq-eqb (get_or (pair_pins t) pair 0) p (get_or_from_slice_get (pair_pins t) pair p 0 is))
    where
      earlier : (k : ℕ) → k < pair → (get_or (pair_pins t) k 0 == p) ≡ false
      earlier k less =
          elim (cases_Bool (get_or (pair_pins t) k 0 == p)) [
            | inl same ↦
                let within = slice_get_within (pair_pins t) pair p is in
                let there : IsPairOf t p k = slice_get-get_or (pair_pins t) k 0 (omega (arith, less, within)) ∙ ap (λ (i : ℕ). Some i) (eqb-true (get_or (pair_pins t) k 0) p same) in
                let one = pairs_apart t laws p k pair there is in
                absurd (omega (arith, one, less))
            | inr other ↦ other
          ]

  pub pair_low : (p pair : ℕ) → IsPairOf t p pair → pair < length t.pairs
  pair_low p pair is = let within = slice_get_within (pair_pins t) pair p is in omega (arith, within, length-map t.pairs (pin_carried t))

  carried_low : (x : Carry) → IsPair t x → pin_carried t x < t.pins
  carried_low (carry.Pin p) law = law.0.high
  carried_low (carry.Cell c) law = (laws.cells c no_cell law).pin.high

  -- what the pair of a pin carries
  pub pin_at : (p pair : ℕ) → IsPairOf t p pair → pin_carried t (get_or t.pairs pair (carry.Pin 0)) ≡ p
  pin_at p pair is = sym (get_or-map (pin_carried t) t.pairs pair (carry.Pin 0) 0 (pair_low p pair is)) ∙ get_or_from_slice_get (pair_pins t) pair p 0 is

  pin_low : (p pair : ℕ) → IsPairOf t p pair → p < 25
  pin_low p pair is =
      let low = pair_low p pair is in
      let same = pin_at p pair is in
      let high = carried_low (get_or t.pairs pair (carry.Pin 0)) (laws.pairs pair (carry.Pin 0) low) in
      omega (arith, same, high, laws.sizes.pins_high)

  -- ---- cells

  cell_position : (c pair : ℕ) → slice_get t.pairs pair ≡ Some (carry.Cell c) → position (carries_cell c) t.pairs ≡ Some pair
  cell_position c pair is =
      found_at (carries_cell c) t.pairs pair (carry.Pin 0) (slice_get_within t.pairs pair (carry.Cell c) is) earlier
      (carries_on c (get_or t.pairs pair (carry.Pin 0)) here)
    where
      here : get_or t.pairs pair (carry.Pin 0) ≡ carry.Cell c
      here = get_or_from_slice_get t.pairs pair (carry.Cell c) (carry.Pin 0) is

      earlier : (k : ℕ) → k < pair → carries_cell c (get_or t.pairs k (carry.Pin 0)) ≡ false
      earlier k less =
          elim (cases_Bool (carries_cell c (get_or t.pairs k (carry.Pin 0)))) [
            | inl same ↦
                absurd (laws.pairs_apart k pair (carry.Pin 0) less (slice_get_within t.pairs pair (carry.Cell c) is)
                (carries_is c (get_or t.pairs k (carry.Pin 0)) same ∙ sym here))
            | inr other ↦ other
          ]

  few_pairs : length t.pairs ≤ 22
  few_pairs = omega (arith, laws.sizes.columns_even, laws.sizes.columns_high)

  module _ (net : Netlist) (sound : IsSoundNetlist t net) where
    pub pin_pair : (p pair : ℕ) → IsPairOf t p pair → pair_of net (leaf.Pin p) ≡ pair
    pin_pair p pair is =
        let few : length t.pairs ≤ 22 = few_pairs in
        let low = pair_low p pair is in
        other_default net.pair_of_pin p no_pair 0 pair
        (sound.pins p (pin_low p pair is) ∙ ap (λ o. unwrap_or o no_pair) (pin_position p pair is)) (λ same. omega (arith, same, low, few))

    pub cell_pair : (c pair : ℕ) → c < length t.cells → slice_get t.pairs pair ≡ Some (carry.Cell c) → pair_of net (leaf.Q c) ≡ pair
    cell_pair c pair within is =
        let few : length t.pairs ≤ 22 = few_pairs in
        let low = slice_get_within t.pairs pair (carry.Cell c) is in
        other_default net.pair_of_cell c no_pair 0 pair
        (sound.registers c (omega (arith, within, laws.sizes.few_cells)) ∙ ap (λ o. unwrap_or o no_pair) (cell_position c pair is))
        (λ same. omega (arith, same, low, few))

    -- ---- what can be read

    -- the number of a leaf is small, and so is its pair
    pub record HasLow (number pair : ℕ) : Type 0 where
      pub number_low : number < 25
      pub pair_below : pair < length t.pairs

    pub pin_has : (p : ℕ) → IsReadable t (plain_netlist net) (leaf.Pin p) → HasLow p (pair_of net (leaf.Pin p))
    pin_has p readable = record {
      number_low = pin_low p readable.0.0 readable.0.1;
      pair_below = rw (pin_pair p readable.0.0 readable.0.1) (pair_low p readable.0.0 readable.0.1);
    }

    pub q_has : (c : ℕ) → IsReadable t (plain_netlist net) (leaf.Q c) → HasLow c (pair_of net (leaf.Q c))
    q_has c readable = record {
      number_low = omega (arith, readable.1.0, laws.sizes.few_cells);
      pair_below = rw (cell_pair c readable.0.0 readable.1.0 readable.0.1) (slice_get_within t.pairs readable.0.0 (carry.Cell c) readable.0.1);
    }
