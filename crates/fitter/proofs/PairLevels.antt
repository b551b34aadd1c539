-- What the pairs of burned fuses carry at a point of the netlist under a choice, as written lists and their turned covers take
-- it.
use Rattle.std.proofs.Common.{◌≡◌, ℕ, zero, suc, ◌+◌, ◌<◌, ◌≤◌, Bool, true, false, not, ◌==◌, if◌then◌else◌, List, [], ◌∷◌, length, get_or, slice_get, Some, refl, sym, ap, ◌∙◌, subst, arith}
use Rattle.fitter.proofs.Common.{bit_at, get_or-map, length-map, get_or_from_slice_get, slice_get_within, is_on, same_level, IsPoint, Levels, Carry, IsDevice, IsPair, complement_if, pin_carried, stores, carried, pair_values, Table, cell_at, Function, Netlist, arena, formula_at, Formula, formula_value, plain_netlist, netlist_stores, IsSoundNetlist, IsReadable, IsSoundFormula, Cube, covers, IsValuedFor, Products, Carries, HasValue, pair_of, written, written_values, all_turned, IsCoverBetween, levels_turned, allowed_of, needed_of, one_of, one_or_any, covers_turned, length_turned, IsSoundId, IsChosenMask, IsFunctionOf, carries_chosen, exchanged_at, in_sense, point_exchanged, MayExchangeIn, netlist_exchanged, q_at, exchanged_means_so}
use Rattle.pld_device.specs.declared.carry.Carry.TheVariants as carry
use Rattle.bit_expr.specs.declared.node.Leaf.TheVariants as leaf
use Rattle.fitter.proofs.CarriedPoints.{carries_all}
use Rattle.fitter.proofs.Coverable.{either_sound}
use Rattle.fitter.proofs.LeafPairs.{cell_pair, pair_low, pin_at, pin_pair}

turned_from : (mask v : ℕ) (levels : List Bool) (i w : ℕ) → w ≡ v + i → i < length levels
    → is_on (levels_turned mask v levels) i ≡ (if bit_at mask w == 1 then not (is_on levels i) else is_on levels i)
turned_from mask v [] i w at low = absurd (omega arith)
turned_from mask v (x ∷ levels) zero w at low = let same : w ≡ v = omega (arith, at) in rw same refl
turned_from mask v (x ∷ levels) (suc i) w at low = turned_from mask (suc v) levels i w (omega (arith, at)) (omega (arith, low))

complement_as : (b c y : Bool) → b ≡ c → (if b then not y else y) ≡ complement_if c y
complement_as true c y same = rw (← same) refl
complement_as false c y same = rw (← same) refl

back : (b : Bool) → not (not b) ≡ b
back true = refl
back false = refl

-- the values that the two lists of a function have, for rows that have what `one` has or the complement
abbrev pub needed_value : Netlist → Function → Bool → Levels → Bool
needed_value net f true at = same_level (formula_value at (one_of net f)) true
needed_value net f false at = same_level (formula_value at (one_or_any net f)) false

abbrev pub allowed_value : Netlist → Function → Bool → Levels → Bool
allowed_value net f true at = same_level (formula_value at (one_or_any net f)) true
allowed_value net f false at = same_level (formula_value at (one_of net f)) false

module _ (t : Table) (laws : IsDevice t) (net : Netlist) (sound : IsSoundNetlist t net) (x : ℕ → Bool) (may : MayExchangeIn t (plain_netlist net) x) (mask : ℕ) (mask_is : IsChosenMask t (plain_netlist net) x mask) (fuses : List Bool)
    (kinds : (c : ℕ) → c < length t.cells → stores t fuses c ≡ netlist_stores t (plain_netlist net) c) where
  -- the levels of the leaves of the pairs
  abbrev leaf_levels : Levels → List Bool
  leaf_levels at = levels_turned mask 0 (pair_values t fuses at)

  values_long : (at : Levels) → length (pair_values t fuses at) ≡ length t.pairs
  values_long at = length-map t.pairs (carried t fuses at)

  levels_long : (at : Levels) → length (leaf_levels at) ≡ length t.pairs
  levels_long at = length_turned mask 0 (pair_values t fuses at) ∙ values_long at

  level_at : (at : Levels) (v : ℕ) → v < length t.pairs
      → is_on (leaf_levels at) v ≡ complement_if (carries_chosen t (plain_netlist net) x (get_or t.pairs v (carry.Pin 0))) (carried t fuses at (get_or t.pairs v (carry.Pin 0)))
  level_at at v low =
      turned_from mask 0 (pair_values t fuses at) v v (omega arith) (omega (arith, low, values_long at))
      ∙ (complement_as (bit_at mask v == 1) (carries_chosen t (plain_netlist net) x (get_or t.pairs v (carry.Pin 0))) (is_on (pair_values t fuses at) v) (mask_is.bits v low)
      ∙ ap (complement_if (carries_chosen t (plain_netlist net) x (get_or t.pairs v (carry.Pin 0)))) (get_or-map (carried t fuses at) t.pairs v (carry.Pin 0) false low))

  pin_level : (at : Levels) (p : ℕ) → IsReadable t (plain_netlist net) (leaf.Pin p) → is_on (leaf_levels at) (pair_of net (leaf.Pin p)) ≡ is_on at.pins p
  pin_level at p readable =
      let pair = readable.0.0 in
      let is = readable.0.1 in
      ap (is_on (leaf_levels at)) (pin_pair t laws net sound p pair is)
      ∙ (level_at at pair (pair_low t laws p pair is)
      ∙ by_carry (get_or t.pairs pair (carry.Pin 0)) (laws.pairs pair (carry.Pin 0) (pair_low t laws p pair is)) (pin_at t laws p pair is))
    where
      by_carry : (y : Carry) → IsPair t y → pin_carried t y ≡ p → complement_if (carries_chosen t (plain_netlist net) x y) (carried t fuses at y) ≡ is_on at.pins p
      by_carry (carry.Pin q) law same = ap (is_on at.pins) same
      by_carry (carry.Cell c) law same =
          let plain = readable.1 c law same in
          rw (plain, kinds c law ∙ plain) (ap (is_on at.pins) same)

  sensed : (b q : Bool) → complement_if (not b) (not q) ≡ in_sense b q
  sensed true q = refl
  sensed false true = refl
  sensed false false = refl

  q_level : (at : Levels) → IsPoint at → (c : ℕ) → IsReadable t (plain_netlist net) (leaf.Q c) → is_on (leaf_levels at) (pair_of net (leaf.Q c)) ≡ is_on (exchanged_at x at).q c
  q_level at is c readable =
      let pair = readable.0.0 in
      let there = readable.0.1 in
      let within = readable.1.0 in
      let kept : netlist_stores t (plain_netlist net) c ≡ true = rw readable.1.2 readable.1.3 in
      let low = slice_get_within t.pairs pair (carry.Cell c) there in
      let x_is : get_or t.pairs pair (carry.Pin 0) ≡ carry.Cell c = get_or_from_slice_get t.pairs pair (carry.Cell c) (carry.Pin 0) there in
      let own : complement_if (carries_chosen t (plain_netlist net) x (carry.Cell c)) (carried t fuses at (carry.Cell c)) ≡ in_sense (x c) (is_on at.q c) = rw (kept, kinds c within ∙ kept) (sensed (x c) (is_on at.q c)) in
      ap (is_on (leaf_levels at)) (cell_pair t laws net sound c pair within there)
      ∙ (level_at at pair low
      ∙ (ap (λ y. complement_if (carries_chosen t (plain_netlist net) x y) (carried t fuses at y)) x_is
      ∙ (own ∙ sym (q_at x (λ d on. let few = laws.sizes.few_cells in omega (arith, (may d on).0, few)) at is c))))

  -- a point whose nodes are valued for the exchanged netlist has them valued for the netlist with the Qs exchanged
  valued_to : (at : Levels) → IsValuedFor t (netlist_exchanged x (plain_netlist net)) at → IsValuedFor t (plain_netlist net) (exchanged_at x at)
  valued_to at is =
      let means = exchanged_means_so t (plain_netlist net) x laws may in
      record {
        is_point = point_exchanged x at is.is_point;
        node = λ n low node. let also = means.to.is_node n low ∙ node in is.node n low also ∙ means.values at is.is_point n low also;
        no_node = λ n low none. is.no_node n low (means.to.is_node n low ∙ none);
      }

  pairs_carry : (at : Levels) → IsValuedFor t (netlist_exchanged x (plain_netlist net)) at → (f : Formula) → IsSoundFormula t (plain_netlist net) f → Carries net (exchanged_at x at) (leaf_levels at) f
  pairs_carry at is f readable = carries_all t laws net sound (exchanged_at x at) (leaf_levels at) (levels_long at) (valued_to at is) (pin_level at) (q_level at is.is_point) f readable

  -- the turned list of a formula has its value at what the pairs carry
  list_value : (f : Formula) (positive : Bool) (list : List Cube) → IsSoundFormula t (plain_netlist net) f → written net f positive ≡ Some list
      → IsFunctionOf t (netlist_exchanged x (plain_netlist net)) fuses (all_turned mask list) (λ at. same_level (formula_value (exchanged_at x at) f) positive)
  list_value f positive list readable is at valued =
      let short : length (pair_values t fuses at) ≤ 32 = omega (arith, values_long at, laws.sizes.columns_even, laws.sizes.columns_high) in
      let has : HasValue (Some list) (leaf_levels at) (same_level (formula_value (exchanged_at x at) f) positive) =
      subst (λ (y : Products). HasValue y (leaf_levels at) (same_level (formula_value (exchanged_at x at) f) positive)) is
      (written_values net (exchanged_at x at) (leaf_levels at) f positive (pairs_carry at valued f readable)) in
      sym (covers_turned mask list (pair_values t fuses at) mask_is.low short ∙ has.1)

  module _ (f : Function) (one : IsSoundId t net f.one) (any : IsSoundId t net f.any) where
    either : IsSoundFormula t (plain_netlist net) (one_or_any net f)
    either = either_sound t net (one_of net f) (formula_at (arena net.exprs) f.any) one.formula any.formula

    pub needs_value : (positive : Bool) (needs : List Cube) → needed_of net f positive ≡ Some needs
        → IsFunctionOf t (netlist_exchanged x (plain_netlist net)) fuses (all_turned mask needs) (λ at. needed_value net f positive (exchanged_at x at))
    needs_value true needs is = list_value (one_of net f) true needs one.formula is
    needs_value false needs is = list_value (one_or_any net f) false needs either is

    pub allows_value : (positive : Bool) (allows : List Cube) → allowed_of net f positive ≡ Some allows
        → IsFunctionOf t (netlist_exchanged x (plain_netlist net)) fuses (all_turned mask allows) (λ at. allowed_value net f positive (exchanged_at x at))
    allows_value true allows is = list_value (one_or_any net f) true allows either is
    allows_value false allows is = list_value (one_of net f) false allows one.formula is
