-- A prime row reads only what its function reads: if the function is given by known leaves, each pair that the row
-- reads carries a known leaf.
use Rattle.std.proofs.Common.{◌≡◌, ◌≢◌, ℕ, zero, suc, ◌*◌, ◌<◌, ◌≤◌, Bool, true, false, not, List, [], ◌∷◌, length, map, set, get_or, Some, slice_get, refl, ap, sym, ◌∙◌, subst, arith, inl, inr, length-set, get_or-set_same, get_or-set_other}
use Rattle.netlist_laws.proofs.Common.{cases_Bool, eqb-true, eqb-false, and_parts, true≢false, get_or-map, slice_get-get_or, get_or_from_slice_get, slice_get_within, is_on, Levels, IsPoint, Carry, Table, cell_at, IsDevice, complement_if, pin_carried, connected_pairs, is_never_true, row_reads, stores, carried, pair_values, row_fuses, row_value, own_pins, pairs_apart, carry_in_range, Leaf, leaf_value, same_leaf, PlainNetlist, IsValuedFor, IsValuedOfFor, is_used, value_without, IsPrimeRow, netlist_waits, signal_count, IsSound, Ranked}
use Rattle.pld_device.specs.declared.carry.Carry.TheVariants as carry
use Rattle.bit_expr.specs.declared.node.Leaf.TheVariants as leaf
use Rattle.netlist_laws.proofs.Valuing.{AgreeOn, valued, is_valued_of}
use Rattle.netlist_laws.proofs.UnusedRows.{unused_never}
use Rattle.netlist_laws.proofs.RowLiterals.{Literal, column_of, literal_of, literal_below, still_true}

-- ---- the leaf that a pair carries

abbrev pub leaf_by : Table → Bool → ℕ → Leaf
leaf_by t true c = leaf.Q c
leaf_by t false c = leaf.Pin (cell_at t c).pin

abbrev pub leaf_of : Table → List Bool → Carry → Leaf
leaf_of t fuses (carry.Pin pin) = leaf.Pin pin
leaf_of t fuses (carry.Cell c) = leaf_by t (stores t fuses c) c

-- a pair carries the complement of a Q
abbrev pub is_flipped : Table → List Bool → Carry → Bool
is_flipped t fuses (carry.Pin pin) = false
is_flipped t fuses (carry.Cell c) = stores t fuses c

pub carried_leaf : (t : Table) (fuses : List Bool) (at : Levels) (x : Carry) → carried t fuses at x ≡ complement_if (is_flipped t fuses x) (leaf_value at (leaf_of t fuses x))
carried_leaf t fuses at (carry.Pin pin) = refl
carried_leaf t fuses at (carry.Cell c) =
    elim (cases_Bool (stores t fuses c)) [ inl kept ↦ rw kept refl | inr plain ↦ rw plain refl ]

-- two pairs with one leaf represent one pin
pin_of_leaf : (t : Table) (b : Bool) (pin d : ℕ) → leaf.Pin pin ≡ leaf_by t b d → pin ≡ (cell_at t d).pin
pin_of_leaf t true pin d e = absurd cc
pin_of_leaf t false pin d e = cc

pin_of_cells : (t : Table) (a b : Bool) (c d : ℕ) → leaf_by t a c ≡ leaf_by t b d → (cell_at t c).pin ≡ (cell_at t d).pin
pin_of_cells t true true c d e = ap (λ i. (cell_at t i).pin) (same e)
  where
    same : leaf.Q c ≡ leaf.Q d → c ≡ d
    same e = cc
pin_of_cells t true false c d e = absurd cc
pin_of_cells t false true c d e = absurd cc
pin_of_cells t false false c d e = cc

pub same_pin : (t : Table) (fuses : List Bool) (x y : Carry) → leaf_of t fuses x ≡ leaf_of t fuses y → pin_carried t x ≡ pin_carried t y
same_pin t fuses (carry.Pin p) (carry.Pin q) e = cc
same_pin t fuses (carry.Pin p) (carry.Cell d) e = pin_of_leaf t (stores t fuses d) p d e
same_pin t fuses (carry.Cell c) (carry.Pin q) e = sym (pin_of_leaf t (stores t fuses c) q c (sym e))
same_pin t fuses (carry.Cell c) (carry.Cell d) e = pin_of_cells t (stores t fuses c) (stores t fuses d) c d e

pub get_map : (f : Carry → ℕ) (xs : List Carry) (k : ℕ) (x : Carry) → slice_get xs k ≡ Some x → slice_get (map f xs) k ≡ Some (f x)
get_map f [] k x found = absurd cc
get_map f (y ∷ xs) zero x found = ap (λ z. Some (f z)) (same found)
  where
    same : Some y ≡ Some x → y ≡ x
    same e = cc
get_map f (y ∷ xs) (suc k) x found = get_map f xs k x found

-- ---- points that differ in one leaf

pub leaf_is : (l m : Leaf) → same_leaf l m ≡ true → l ≡ m
leaf_is (leaf.Pin a) (leaf.Pin b) e = ap (λ i. leaf.Pin i) (eqb-true a b e)
leaf_is (leaf.Pin a) (leaf.Q b) e = absurd (true≢false (sym e))
leaf_is (leaf.Pin a) (leaf.Node b) e = absurd (true≢false (sym e))
leaf_is (leaf.Q a) (leaf.Pin b) e = absurd (true≢false (sym e))
leaf_is (leaf.Q a) (leaf.Q b) e = ap (λ i. leaf.Q i) (eqb-true a b e)
leaf_is (leaf.Q a) (leaf.Node b) e = absurd (true≢false (sym e))
leaf_is (leaf.Node a) (leaf.Pin b) e = absurd (true≢false (sym e))
leaf_is (leaf.Node a) (leaf.Q b) e = absurd (true≢false (sym e))
leaf_is (leaf.Node a) (leaf.Node b) e = ap (λ i. leaf.Node i) (eqb-true a b e)

-- the point with this level or Q
abbrev pub set_leaf : Levels → Leaf → Bool → Levels
set_leaf at (leaf.Pin pin) v = record { pins = set at.pins pin v; q = at.q; nodes = at.nodes }
set_leaf at (leaf.Q c) v = record { pins = at.pins; q = set at.q c v; nodes = at.nodes }
set_leaf at (leaf.Node n) v = at

-- a pin or a Q of a point
abbrev pub IsWire : Leaf → Type 0
IsWire (leaf.Pin pin) = pin < 32
IsWire (leaf.Q c) = c < 32
IsWire (leaf.Node n) = ⊥

pub set_point : (at : Levels) (l : Leaf) (v : Bool) → IsPoint at → IsPoint (set_leaf at l v)
set_point at (leaf.Pin pin) v is = record { pins = length-set at.pins pin v ∙ is.pins; q = is.q; nodes = is.nodes }
set_point at (leaf.Q c) v is = record { pins = is.pins; q = length-set at.q c v ∙ is.q; nodes = is.nodes }
set_point at (leaf.Node n) v is = is

pub set_same : (at : Levels) (l : Leaf) (v : Bool) → IsPoint at → IsWire l → leaf_value (set_leaf at l v) l ≡ v
set_same at (leaf.Pin pin) v is low = get_or-set_same at.pins pin v false (subst (λ n. pin < n) (sym is.pins) low)
set_same at (leaf.Q c) v is low = get_or-set_same at.q c v false (subst (λ n. c < n) (sym is.q) low)
set_same at (leaf.Node n) v is low = absurd low

pub set_other : (at : Levels) (l : Leaf) (v : Bool) (m : Leaf) → same_leaf l m ≡ false → leaf_value (set_leaf at l v) m ≡ leaf_value at m
set_other at (leaf.Pin a) v (leaf.Pin b) e = get_or-set_other at.pins a b v false (λ same. eqb-false a b e (sym same))
set_other at (leaf.Pin a) v (leaf.Q b) e = refl
set_other at (leaf.Pin a) v (leaf.Node b) e = refl
set_other at (leaf.Q a) v (leaf.Pin b) e = refl
set_other at (leaf.Q a) v (leaf.Q b) e = get_or-set_other at.q a b v false (λ same. eqb-false a b e (sym same))
set_other at (leaf.Q a) v (leaf.Node b) e = refl
set_other at (leaf.Node a) v m e = refl

wire_same : (t : Table) (net : PlainNetlist) (at next : Levels) (l : Leaf) → IsValuedOfFor t net at next → IsWire l → leaf_value next l ≡ leaf_value at l
wire_same t net at next (leaf.Pin pin) is wire = ap (λ xs. is_on xs pin) is.pins
wire_same t net at next (leaf.Q c) is wire = ap (λ xs. is_on xs c) is.q
wire_same t net at next (leaf.Node n) is wire = absurd wire

pub twice : (b v : Bool) → complement_if b (complement_if b v) ≡ v
twice true true = refl
twice true false = refl
twice false v = refl

-- ---- rows that are read

module _ (t : Table) (laws : IsDevice t) (fuses : List Bool) (size : length fuses ≡ t.fuses) where
  -- a row that reads isn't all 0
  pub reader_used : (row pair : ℕ) → row < t.rows → row_reads t fuses row pair ≡ true → is_used t fuses row ≡ true
  reader_used row pair within reads =
      elim (cases_Bool (is_used t fuses row)) [
        | inl used ↦ used
        | inr unused ↦
            let parts = and_parts (not (is_never_true t fuses row)) (is_on (connected_pairs (row_fuses t fuses row)) pair) reads in
            absurd (true≢false (sym parts.0 ∙ ap not (unused_never t laws fuses size row within unused)))
      ]

  pub wire_of : (pair : ℕ) (x : Carry) → slice_get t.pairs pair ≡ Some x → IsWire (leaf_of t fuses x)
  wire_of pair (carry.Pin pin) found = carry_in_range t laws pair (carry.Pin pin) found
  wire_of pair (carry.Cell c) found = by_kind (stores t fuses c)
    where
      within : c < length t.cells
      within = carry_in_range t laws pair (carry.Cell c) found

      by_kind : (b : Bool) → IsWire (leaf_by t b c)
      by_kind true = omega (arith, within, laws.sizes.few_cells)
      by_kind false = (own_pins t laws).last c within

  -- ---- the theorem

  module _ (net : PlainNetlist) (sound : IsSound t net) (ranks : Ranked (signal_count t net) (netlist_waits t net)) where
    pub reads_known : (known : Leaf → Type 0) (row : ℕ) (allowed : Levels → Bool) → row < t.rows
        → ((a b : Levels) → IsValuedFor t net a → IsValuedFor t net b → AgreeOn known a b → allowed a ≡ allowed b)
        → ((at : Levels) → IsValuedFor t net at → row_value t fuses at row ≡ true → allowed at ≡ true)
        → (is_used t fuses row ≡ true → IsPrimeRow t net fuses allowed row)
        → (pair : ℕ) (x : Carry) → slice_get t.pairs pair ≡ Some x → row_reads t fuses row pair ≡ true
        → (known (leaf_of t fuses x) → ⊥) → ⊥
    reads_known known row allowed within told right prime pair x found reads unknown =
        prime (reader_used row pair within reads) (column_of pair lit.positive) (literal_below t fuses row even fits size within pair lit.positive low) lit.off left_out
      where
        even : t.columns ≡ 2 * length t.pairs
        even = laws.sizes.columns_even

        fits : t.columns * t.rows ≤ t.fuses
        fits = laws.sizes.array_fits

        low : pair < length t.pairs
        low = slice_get_within t.pairs pair x found

        lit : Literal t fuses row pair
        lit = literal_of t fuses row even fits size within pair low reads

        left_out : (at : Levels) → IsValuedFor t net at → value_without t fuses at row (column_of pair lit.positive) ≡ true → allowed at ≡ true
        left_out at is without =
            let z : Levels = set_leaf at (leaf_of t fuses x) (complement_if (is_flipped t fuses x) lit.positive) in
            let z_is : IsPoint z = set_point at (leaf_of t fuses x) (complement_if (is_flipped t fuses x) lit.positive) is.is_point in
            let next : Levels = valued t net sound ranks z in
            let of_z : IsValuedOfFor t net z next = is_valued_of t net sound ranks z z_is in
            let wire : IsWire (leaf_of t fuses x) = wire_of pair x found in
            let own : carried t fuses next x ≡ lit.positive =
            carried_leaf t fuses next x
            ∙ (ap (complement_if (is_flipped t fuses x)) (wire_same t net z next (leaf_of t fuses x) of_z wire ∙ set_same at (leaf_of t fuses x) (complement_if (is_flipped t fuses x) lit.positive) is.is_point wire)
            ∙ twice (is_flipped t fuses x) lit.positive) in
            let here : is_on (pair_values t fuses next) pair ≡ lit.positive =
            get_or-map (carried t fuses next) t.pairs pair (carry.Pin 0) false low
            ∙ (ap (carried t fuses next) (get_or_from_slice_get t.pairs pair x (carry.Pin 0) found) ∙ own) in
            let apart : (p : ℕ) (y : Carry) → slice_get t.pairs p ≡ Some y → p ≢ pair → same_leaf (leaf_of t fuses x) (leaf_of t fuses y) ≡ false =
            λ p y p_found other. elim (cases_Bool (same_leaf (leaf_of t fuses x) (leaf_of t fuses y))) [
              | inl same ↦ absurd (other (pairs_apart t laws (pin_carried t y) p pair (get_map (pin_carried t) t.pairs p y p_found)
                  (get_map (pin_carried t) t.pairs pair x found ∙ ap (λ i. Some i) (same_pin t fuses x y (leaf_is (leaf_of t fuses x) (leaf_of t fuses y) same)))))
              | inr different ↦ different
            ] in
            let others : (p : ℕ) → p < length t.pairs → p ≢ pair → is_on (pair_values t fuses next) p ≡ is_on (pair_values t fuses at) p =
            λ p p_low other.
            let y = get_or t.pairs p (carry.Pin 0) in
            let p_found = slice_get-get_or t.pairs p (carry.Pin 0) p_low in
            get_or-map (carried t fuses next) t.pairs p (carry.Pin 0) false p_low
            ∙ (carried_leaf t fuses next y
            ∙ (ap (complement_if (is_flipped t fuses y)) (wire_same t net z next (leaf_of t fuses y) of_z (wire_of p y p_found) ∙ set_other at (leaf_of t fuses x) (complement_if (is_flipped t fuses x) lit.positive) (leaf_of t fuses y) (apart p y p_found other))
            ∙ (sym (carried_leaf t fuses at y)
            ∙ sym (get_or-map (carried t fuses at) t.pairs p (carry.Pin 0) false p_low)))) in
            let agree : AgreeOn known at next = record {
              pins = λ pin here_pin. sym (ap (λ xs. is_on xs pin) of_z.pins ∙ set_other at (leaf_of t fuses x) (complement_if (is_flipped t fuses x) lit.positive) (leaf.Pin pin) (other_leaf (leaf.Pin pin) here_pin));
              q = λ c here_q. sym (ap (λ xs. is_on xs c) of_z.q ∙ set_other at (leaf_of t fuses x) (complement_if (is_flipped t fuses x) lit.positive) (leaf.Q c) (other_leaf (leaf.Q c) here_q));
            } in
            told at next is of_z.is_valued agree
            ∙ right next of_z.is_valued (still_true t fuses row even fits size within pair low lit at next without here others)
          where
            other_leaf : (m : Leaf) → known m → same_leaf (leaf_of t fuses x) m ≡ false
            other_leaf m here = elim (cases_Bool (same_leaf (leaf_of t fuses x) m)) [
              | inl same ↦ absurd (unknown (subst known (sym (leaf_is (leaf_of t fuses x) m same)) here))
              | inr different ↦ different
            ]
