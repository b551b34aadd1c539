-- What holds at every settled point: each slot has its value, and what no slot sets is as outside.
use Rattle.std.proofs.Common.{◌≡◌, ◌≢◌, ℕ, ◌+◌, ◌<◌, ◌≤◌, Bool, true, false, not, List, [], ◌∷◌, drop, slice_get, Some, refl, ap, sym, ◌∙◌, subst, inl, inr}
use Rattle.pld_machine.proofs.Common.{cases_Bool, cases_lt, true≢false, cond-true, cond-false, is_on, same_level, Levels, IsPoint, IsSettled, Lookups, sets_pin, sets_node, logic_of, DifferOnlyIn, HasPins, HasSlots, Slot, Cell, Node}
use Rattle.std.proofs.lemmas.List.{get_or_past}
use Rattle.pld_machine.proofs.Settles.{SettledAt, AllSettled}
use Rattle.pld_machine.proofs.Ordered.{node_set, pin_set, at_drop, next_drop, cell_slot}

pub same_true : (a b : Bool) → a ≡ b → same_level a b ≡ true
same_true true b e = sym e
same_true false b e = ap not (sym e)

pub true_same : (a b : Bool) → same_level a b ≡ true → a ≡ b
true_same true b e = sym e
true_same false true e = absurd (true≢false (sym e))
true_same false false e = refl

module _ (m : Lookups) (has_pins : HasPins m) (has_slots : HasSlots m) (outside : List Bool) where
  -- each slot of a settled point has its value
  pub slot_settled : (at : Levels) → IsSettled (logic_of m) outside at → (i : ℕ) (slot : Slot) → slice_get m.slots i ≡ Some slot → SettledAt m outside at slot
  slot_settled at settled i (Node n) found = true_same _ _ (settled.nodes n (has_slots.range i (Node n) found) (node_set m.slots i n found))
  slot_settled at settled i (Cell c) found =
      elim (cases_Bool (m.enable at c)) [
        | inl on ↦ true_same _ _ (settled.driven c (has_slots.range i (Cell c) found) on) ∙ sym (cond-true _ _ _ on)
        | inr off ↦
            settled.undriven (m.pin c) (has_pins.last c (has_slots.range i (Cell c) found))
            (λ d within on pins. true≢false (sym on ∙ (ap (m.enable at) (has_pins.apart d c within (has_slots.range i (Cell c) found) pins) ∙ off)))
            ∙ sym (cond-false _ _ _ off)
      ]

  pub all_settled : (at : Levels) → IsSettled (logic_of m) outside at → (slots : List Slot) (i : ℕ) → drop i m.slots ≡ slots → AllSettled m outside at slots
  all_settled at settled [] i e = tt
  all_settled at settled (slot ∷ slots) i e = (slot_settled at settled i slot (at_drop m.slots i slot slots e), all_settled at settled slots (i + 1) (next_drop m.slots i slot slots e))

  unset : (at : Levels) (k : ℕ) → sets_pin m m.slots k ≡ false → (c : ℕ) → c < m.cells → m.enable at c ≡ true → m.pin c ≢ k
  unset at k free c within on pin =
      let here = cell_slot m has_pins has_slots c within in
      true≢false (sym (pin_set m m.slots here.at c here.is) ∙ (ap (sets_pin m m.slots) pin ∙ free))

  -- settled points agree on what no slot sets
  pub unset_pins : (a b : Levels) → IsPoint a → IsPoint b → IsSettled (logic_of m) outside a → IsSettled (logic_of m) outside b → (k : ℕ) → sets_pin m m.slots k ≡ false → is_on a.pins k ≡ is_on b.pins k
  unset_pins a b a_is b_is a_settled b_settled k free =
      elim (cases_lt k 32) [
        | inl low ↦ a_settled.undriven k low (unset a k free) ∙ sym (b_settled.undriven k low (unset b k free))
        | inr high ↦ get_or_past a.pins k false (subst (λ l. l ≤ k) (sym a_is.pins) high) ∙ sym (get_or_past b.pins k false (subst (λ l. l ≤ k) (sym b_is.pins) high))
      ]

  pub unset_nodes : (a b : Levels) → IsPoint a → IsPoint b → IsSettled (logic_of m) outside a → IsSettled (logic_of m) outside b → (n : ℕ) → sets_node m.slots n ≡ false → is_on a.nodes n ≡ is_on b.nodes n
  unset_nodes a b a_is b_is a_settled b_settled n free =
      elim (cases_lt n 128) [
        | inl low ↦ a_settled.no_node n low free ∙ sym (b_settled.no_node n low free)
        | inr high ↦ get_or_past a.nodes n false (subst (λ l. l ≤ n) (sym a_is.nodes) high) ∙ sym (get_or_past b.nodes n false (subst (λ l. l ≤ n) (sym b_is.nodes) high))
      ]

  pub settled_differ : (a b : Levels) → IsPoint a → IsPoint b → IsSettled (logic_of m) outside a → IsSettled (logic_of m) outside b → a.q ≡ b.q → DifferOnlyIn m m.slots a b
  settled_differ a b a_is b_is a_settled b_settled q = record { pins = unset_pins a b a_is b_is a_settled b_settled; q = q; nodes = unset_nodes a b a_is b_is a_settled b_settled }
