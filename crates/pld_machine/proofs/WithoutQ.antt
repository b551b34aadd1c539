-- Resets that read only unset pins, and slots that do so in turn, depend on no Q.
use Rattle.std.proofs.Common.{◌≡◌, ℕ, suc, zero, ◌<◌, Bool, true, false, List, length, slice_get, Some, sym, ◌∙◌, subst, arith, inl, inr}
use Rattle.pld_machine.proofs.Common.{cases_lt, is_on, Levels, IsPoint, is_register, IsSettled, Slot, Cell, Node, Lookups, sets_pin, sets_node, logic_of, SameAt, HasPins, HasSlots, ResetsWithoutQ}
use Rattle.pld_machine.proofs.Settles.{SettledAt, same_value}
use Rattle.pld_machine.proofs.Settled.{slot_settled, unset_pins, unset_nodes}

-- the slot's own place has the same value at both points
abbrev pub SamePlace : Lookups → Slot → Levels → Levels → Type 0
SamePlace m (Cell c) a b = is_on a.pins (m.pin c) ≡ is_on b.pins (m.pin c)
SamePlace m (Node n) a b = is_on a.nodes n ≡ is_on b.nodes n

-- the points agree on what no slot sets, and on the places of the marked slots before place i of the order
pub record AgreeBefore (m : Lookups) (Marked : Slot → Type 0) (i : ℕ) (a b : Levels) : Type 0 where
  pub pins : (k : ℕ) → sets_pin m m.slots k ≡ false → is_on a.pins k ≡ is_on b.pins k
  pub nodes : (n : ℕ) → sets_node m.slots n ≡ false → is_on a.nodes n ≡ is_on b.nodes n
  pub slots : (j : ℕ) (slot : Slot) → j < i → slice_get m.slots j ≡ Some slot → Marked slot → SamePlace m slot a b

-- marked slots and the resets of registers read no Q, and of slots only earlier marked ones
pub record ReadNoQ (m : Lookups) (Marked : Slot → Type 0) : Type 0 where
  pub slots : (i : ℕ) (slot : Slot) → slice_get m.slots i ≡ Some slot → Marked slot
      → (a b : Levels) → AgreeBefore m Marked i a b → SameAt m slot a b
  pub resets : (c : ℕ) → is_register (logic_of m) c ≡ true
      → (a b : Levels) → AgreeBefore m Marked (length m.slots) a b → m.reset a c ≡ m.reset b c

same_place : (m : Lookups) (outside : List Bool) (a b : Levels) (slot : Slot) → SettledAt m outside a slot → SettledAt m outside b slot → SameAt m slot a b → SamePlace m slot a b
same_place m outside a b (Cell c) x y same = x ∙ (same_value m outside a b c same ∙ sym y)
same_place m outside a b (Node n) x y same = x ∙ (same ∙ sym y)

module _ (m : Lookups) (has_pins : HasPins m) (has_slots : HasSlots m) (Marked : Slot → Type 0) (reads : ReadNoQ m Marked) where
  settled_agree : (outside : List Bool) (a b : Levels) → IsPoint a → IsPoint b → IsSettled (logic_of m) outside a → IsSettled (logic_of m) outside b → (i : ℕ) → AgreeBefore m Marked i a b
  settled_agree outside a b a_is b_is a_settled b_settled zero = record {
    pins = unset_pins m has_pins has_slots outside a b a_is b_is a_settled b_settled;
    nodes = unset_nodes m has_pins has_slots outside a b a_is b_is a_settled b_settled;
    slots = λ j slot less found on. absurd (omega arith);
  }
  settled_agree outside a b a_is b_is a_settled b_settled (suc i) =
      let before : AgreeBefore m Marked i a b = settled_agree outside a b a_is b_is a_settled b_settled i in
      record {
        pins = before.pins;
        nodes = before.nodes;
        slots = λ j slot less found on.
            elim (cases_lt j i) [
              | inl earlier ↦ before.slots j slot earlier found on
              | inr later ↦
                  let here : j ≡ i = omega arith in
                  let at : slice_get m.slots i ≡ Some slot = subst (λ k. slice_get m.slots k ≡ Some slot) here found in
                  same_place m outside a b slot
                  (slot_settled m has_pins has_slots outside a a_settled i slot at)
                  (slot_settled m has_pins has_slots outside b b_settled i slot at)
                  (reads.slots i slot at on a b before)
            ];
      }

  pub resets_without_q : ResetsWithoutQ m
  resets_without_q outside a b a_is b_is a_settled b_settled c register = reads.resets c register a b (settled_agree outside a b a_is b_is a_settled b_settled (length m.slots))
