-- Each cell of a device has a pin of its own, and no two of its pairs represent one pin.
use Rattle.std.proofs.Common.{◌≡◌, ℕ, zero, suc, ◌<◌, List, [], ◌∷◌, length, map, get_or, slice_get, Some, refl, ap, sym, ◌∙◌, arith, inl, inr}
use Rattle.pld_device.proofs.Common.{cases_lt, Carry, Table, cell_at, no_cell, HasOwnPins, PairsApart, pin_carried, HasPairs, IsPair, IsDevice}
use Rattle.pld_device.specs.declared.carry.Carry.TheVariants as carry
use Rattle.pld_device.specs.SampleTable.{twice_carried}

-- a relation of earlier and later places that never holds holds of no two places
one_place : (c d : ℕ) → (c < d → ⊥) → (d < c → ⊥) → c ≡ d
one_place c d before after =
    elim (cases_lt c d) [
      | inl less ↦ absurd (before less)
      | inr more ↦ elim (cases_lt d c) [
        | inl less ↦ absurd (after less)
        | inr also ↦ omega arith
      ]
    ]

cells_apart : (t : Table) → IsDevice t → (c d : ℕ) → c < length t.cells → d < length t.cells → (cell_at t c).pin ≡ (cell_at t d).pin → c ≡ d
cells_apart t laws c d c_in d_in same =
    one_place c d (λ less. laws.pins_apart c d no_cell less d_in same) (λ less. laws.pins_apart d c no_cell less c_in (sym same))

pub own_pins : (t : Table) → IsDevice t → HasOwnPins t
own_pins t laws = record {
  cells = omega (arith, laws.sizes.few_cells);
  first = λ c within. (laws.cells c no_cell within).pin.low;
  last = λ c within. omega (arith, (laws.cells c no_cell within).pin.high, laws.sizes.pins_high);
  no_clock = λ c within. (laws.cells c no_cell within).not_clock;
  apart = cells_apart t laws;
  clock = omega (arith, laws.sizes.clock_high, laws.sizes.pins_high);
}

pub has_pairs : (t : Table) → IsDevice t → HasPairs t
has_pairs t laws = omega (arith, laws.sizes.columns_even)

-- what a pair carries, by its pin
pair_at : (pin_of : Carry → ℕ) (pairs : List Carry) (p pin : ℕ) → slice_get (map pin_of pairs) p ≡ Some pin → (p < length pairs) × (pin_of (get_or pairs p (carry.Pin 0)) ≡ pin)
pair_at pin_of [] p pin found = absurd cc
pair_at pin_of (carried ∷ pairs) zero pin found = (omega arith, same found)
  where
    same : Some (pin_of carried) ≡ Some pin → pin_of carried ≡ pin
    same e = cc
pair_at pin_of (carried ∷ pairs) (suc p) pin found =
    let rest = pair_at pin_of pairs p pin found in
    (omega (arith, rest.0), rest.1)

-- two pairs for one pin carry the same
same_carried : (t : Table) → IsDevice t → (a b : Carry) → IsPair t a → IsPair t b → pin_carried t a ≡ pin_carried t b → a ≡ b
same_carried t laws (carry.Pin p) (carry.Pin q) here there same = ap (λ pin. carry.Pin pin) same
same_carried t laws (carry.Pin p) (carry.Cell d) here there same = absurd (here.1 d no_cell there (sym same))
same_carried t laws (carry.Cell c) (carry.Pin q) here there same = absurd (there.1 c no_cell here same)
same_carried t laws (carry.Cell c) (carry.Cell d) here there same = ap (λ cell. carry.Cell cell) (cells_apart t laws c d here there same)

pub pairs_apart : (t : Table) → IsDevice t → PairsApart t
pairs_apart t laws pin p q here there =
    let first = pair_at (pin_carried t) t.pairs p pin here in
    let second = pair_at (pin_carried t) t.pairs q pin there in
    let same = same_carried t laws (get_or t.pairs p (carry.Pin 0)) (get_or t.pairs q (carry.Pin 0)) (laws.pairs p (carry.Pin 0) first.0) (laws.pairs q (carry.Pin 0) second.0) (first.1 ∙ sym second.1) in
    one_place p q (λ less. laws.pairs_apart p q (carry.Pin 0) less second.0 same) (λ less. laws.pairs_apart q p (carry.Pin 0) less first.0 (sym same))

-- a table with one pin on two pairs is no device's
pub none_carried_twice : IsDevice twice_carried → ⊥
none_carried_twice laws = laws.pairs_apart 0 2 (carry.Pin 0) (omega arith) (omega arith) refl
