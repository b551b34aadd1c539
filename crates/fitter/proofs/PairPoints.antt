-- Whatever levels the pairs of a device are to carry, there is a point with valued nodes at which they do.
use Rattle.std.proofs.Common.{◌≡◌, ℕ, suc, ◌<◌, Bool, false, List, [], ◌∷◌, length, map, Some, slice_get, refl, ap, sym, ◌∙◌, arith, inl, inr}
use Rattle.fitter.proofs.Common.{cases_Bool, Levels, IsPoint, bits, length-bits, Carry, Table, IsDevice, complement_if, pin_carried, carried, pair_values, pairs_apart, same_leaf, PlainNetlist, IsValuedFor, IsValuedOfFor, netlist_waits, signal_count, IsSound, Ranked, valued, is_valued_of}
use Rattle.netlist_laws.proofs.CoverReads.{leaf_of, is_flipped, carried_leaf, same_pin, get_map, leaf_is, set_leaf, IsWire, set_point, set_same, set_other, twice, wire_of}
use Rattle.netlist_laws.proofs.CellValues.{pairs_same, carried_same}

module _ (t : Table) (fuses : List Bool) where
  -- the point with these levels on these pairs
  abbrev set_pairs : List Carry → List Bool → Levels → Levels
  set_pairs [] bs at = at
  set_pairs (x ∷ xs) [] at = at
  set_pairs (x ∷ xs) (b ∷ bs) at = set_leaf (set_pairs xs bs at) (leaf_of t fuses x) (complement_if (is_flipped t fuses x) b)

  pairs_point : (xs : List Carry) (bs : List Bool) (at : Levels) → IsPoint at → IsPoint (set_pairs xs bs at)
  pairs_point [] bs at is = is
  pairs_point (x ∷ xs) [] at is = is
  pairs_point (x ∷ xs) (b ∷ bs) at is = set_point (set_pairs xs bs at) (leaf_of t fuses x) (complement_if (is_flipped t fuses x) b) (pairs_point xs bs at is)

  -- no two of them have one leaf
  abbrev AreApart : List Carry → Type 0
  AreApart xs = (i j : ℕ) (x y : Carry) → i < j → slice_get xs i ≡ Some x → slice_get xs j ≡ Some y → same_leaf (leaf_of t fuses x) (leaf_of t fuses y) ≡ false

  same_each : (f g : Carry → Bool) (xs : List Carry) → ((j : ℕ) (y : Carry) → slice_get xs j ≡ Some y → f y ≡ g y) → map f xs ≡ map g xs
  same_each f g [] same = refl
  same_each f g (x ∷ xs) same = rw (same 0 x refl, same_each f g xs (λ j y found. same (suc j) y found)) refl

  carries_all : (xs : List Carry) (bs : List Bool) (at : Levels) → IsPoint at → length bs ≡ length xs → ((j : ℕ) (y : Carry) → slice_get xs j ≡ Some y → IsWire (leaf_of t fuses y)) → AreApart xs → map (carried t fuses (set_pairs xs bs at)) xs ≡ bs
  carries_all [] [] at is long wires apart = refl
  carries_all [] (b ∷ bs) at is long wires apart = absurd (omega arith)
  carries_all (x ∷ xs) [] at is long wires apart = absurd (omega arith)
  carries_all (x ∷ xs) (b ∷ bs) at is long wires apart =
      let z : Levels = set_pairs xs bs at in
      let v : Bool = complement_if (is_flipped t fuses x) b in
      let here : carried t fuses (set_leaf z (leaf_of t fuses x) v) x ≡ b =
      carried_leaf t fuses (set_leaf z (leaf_of t fuses x) v) x
      ∙ (ap (complement_if (is_flipped t fuses x)) (set_same z (leaf_of t fuses x) v (pairs_point xs bs at is) (wires 0 x refl)) ∙ twice (is_flipped t fuses x) b) in
      let others : map (carried t fuses (set_leaf z (leaf_of t fuses x) v)) xs ≡ map (carried t fuses z) xs =
      same_each (carried t fuses (set_leaf z (leaf_of t fuses x) v)) (carried t fuses z) xs (λ j y found.
      carried_leaf t fuses (set_leaf z (leaf_of t fuses x) v) y
      ∙ (ap (complement_if (is_flipped t fuses y)) (set_other z (leaf_of t fuses x) v (leaf_of t fuses y) (apart 0 (suc j) x y (omega arith) refl found))
      ∙ sym (carried_leaf t fuses z y))) in
      let rest : map (carried t fuses z) xs ≡ bs = carries_all xs bs at is (omega (arith, long)) (λ j y found. wires (suc j) y found) (λ i j a c less first second. apart (suc i) (suc j) a c (omega (arith, less)) first second) in
      rw (here, others, rest) refl

module _ (t : Table) (laws : IsDevice t) (fuses : List Bool) (size : length fuses ≡ t.fuses) (net : PlainNetlist) (sound : IsSound t net) (ranks : Ranked (signal_count t net) (netlist_waits t net)) where
  abbrev origin : Levels
  origin = record { pins = bits 32 0; q = bits 32 0; nodes = bits 128 0 }

  origin_point : IsPoint origin
  origin_point = record { pins = length-bits 32 0; q = length-bits 32 0; nodes = length-bits 128 0 }

  apart : AreApart t fuses t.pairs
  apart i j x y less first second =
      elim (cases_Bool (same_leaf (leaf_of t fuses x) (leaf_of t fuses y))) [
        | inl same ↦
            let one : i ≡ j = pairs_apart t laws (pin_carried t x) i j (get_map (pin_carried t) t.pairs i x first)
            (get_map (pin_carried t) t.pairs j y second ∙ ap (λ k. Some k) (sym (same_pin t fuses x y (leaf_is (leaf_of t fuses x) (leaf_of t fuses y) same)))) in
            absurd (omega (arith, less, one))
        | inr other ↦ other
      ]

  -- a point with valued nodes at which the pairs carry these levels
  pub record Carries (p : List Bool) : Type 0 where
    pub at : Levels
    pub is_valued : IsValuedFor t net at
    pub carry : pair_values t fuses at ≡ p

  pub point_of : (p : List Bool) → length p ≡ length t.pairs → Carries p
  point_of p long =
      let z : Levels = set_pairs t fuses t.pairs p origin in
      let of_z : IsValuedOfFor t net z (valued t net sound ranks z) = is_valued_of t net sound ranks z (pairs_point t fuses t.pairs p origin origin_point) in
      record {
        at = valued t net sound ranks z;
        is_valued = of_z.is_valued;
        carry = sym (pairs_same (carried t fuses z) (carried t fuses (valued t net sound ranks z)) t.pairs (carried_same t fuses z (valued t net sound ranks z) of_z.pins of_z.q))
            ∙ carries_all t fuses t.pairs p origin origin_point long (λ j y found. wire_of t laws fuses size j y found) apart;
      }
