-- The tests' shift register is a logic in order.
use Rattle.std.proofs.Common.{◌≡◌, ℕ, suc, zero, ◌+◌, ◌<◌, true, not, drop, slice_get, Some, None, refl, ap, sym, ◌∙◌, subst, arith}
use Rattle.pld_machine.proofs.Common.{is_on, Slot, Cell, Node, sets_pin, InRange, ReadsNone, HasPins, HasSlots, ReadsEarlier, ResetsWithoutQ, IsOrdered}
use Rattle.pld_machine.specs.Shifter.{shifter, shifter_slots}

-- what holds of the four slots holds of each that is found
at_each : (P : ℕ → Slot → Type 0) → P 0 (Cell 0) → P 1 (Cell 1) → P 2 (Cell 2) → P 3 (Node 0) → (i : ℕ) (slot : Slot) → slice_get shifter_slots i ≡ Some slot → P i slot
at_each P first second third node zero slot found = subst (P 0) (inside (Cell 0) slot found) first
  where
    inside : (a b : Slot) → Some a ≡ Some b → a ≡ b
    inside a b e = cc
at_each P first second third node (suc zero) slot found = subst (P 1) (inside (Cell 1) slot found) second
  where
    inside : (a b : Slot) → Some a ≡ Some b → a ≡ b
    inside a b e = cc
at_each P first second third node (suc (suc zero)) slot found = subst (P 2) (inside (Cell 2) slot found) third
  where
    inside : (a b : Slot) → Some a ≡ Some b → a ≡ b
    inside a b e = cc
at_each P first second third node (suc (suc (suc zero))) slot found = subst (P 3) (inside (Node 0) slot found) node
  where
    inside : (a b : Slot) → Some a ≡ Some b → a ≡ b
    inside a b e = cc
at_each P first second third node (suc (suc (suc (suc i)))) slot found = absurd (none_some slot found)
  where
    none_some : (b : Slot) → None ≡ Some b → ⊥
    none_some b e = cc

-- the place of a slot in the order
place : Slot → ℕ
place (Cell c) = c
place (Node n) = 3 + n

at_place : (i : ℕ) (slot : Slot) → slice_get shifter_slots i ≡ Some slot → i ≡ place slot
unfolding place
at_place = at_each (λ i slot. i ≡ place slot) refl refl refl refl

has_pins : HasPins shifter
has_pins = record {
  cells = omega arith;
  first = λ c within. omega arith;
  last = λ c within. omega arith;
  no_clock = λ c within e. omega arith;
  apart = λ c d c_in d_in e. omega arith;
  clock = omega arith;
}

each : (c : ℕ) → c < 3 → sets_pin shifter shifter_slots (12 + c) ≡ true
each zero within = refl
each (suc zero) within = refl
each (suc (suc zero)) within = refl
each (suc (suc (suc c))) within = absurd (omega arith)

has_slots : HasSlots shifter
has_slots = record {
  range = at_each (λ i slot. InRange shifter slot) (omega arith) (omega arith) (omega arith) (omega arith);
  each = each;
  once = λ i j slot here there. at_place i slot here ∙ sym (at_place j slot there);
}

reads : ReadsEarlier shifter
reads = at_each (λ i slot. ReadsNone shifter (drop i shifter_slots) slot)
    (λ a b d. (refl, λ on. ap (λ q. not (is_on q 0)) d.q))
    (λ a b d. (refl, λ on. ap (λ q. is_on q 1) d.q))
    (λ a b d. (d.pins 5 refl, λ on. ap (λ q. is_on q 1) d.q))
    (λ a b d. d.pins 14 refl)

resets : ResetsWithoutQ shifter
resets outside a b a_is b_is a_settled b_settled c register =
    a_settled.undriven 3 (omega arith) (λ d within on e. omega arith) ∙ sym (b_settled.undriven 3 (omega arith) (λ d within on e. omega arith))

pub shifter_ordered : IsOrdered shifter
shifter_ordered = record { has_pins = has_pins; has_slots = has_slots; reads = reads; resets = resets }
