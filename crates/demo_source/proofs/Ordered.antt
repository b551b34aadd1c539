-- The machine of any equations is a logic in order: its levels read its own Qs alone, and nothing resets it.
use Rattle.std.proofs.Common.{◌≡◌, ℕ, zero, suc, ◌+◌, ◌-◌, ◌<◌, true, List, map, slice_get, Some, None, refl, ap, sym, ◌∙◌, arith}
use Rattle.demo_source.proofs.Common.{zero-add, is_on, sets_pin, register_slots, machine}
use Rattle.std.specs.List.{range_with_len}
use Rattle.pld_machine.specs.declared.logic.Slot.{Slot}
use Rattle.pld_machine.specs.declared.logic.Slot.TheVariants.{Cell}
use Rattle.pld_machine.specs.Order.{InRange, HasPins, ReadsEarlier, ResetsWithoutQ, IsOrdered}
use Rattle.demo_source.specs.declared.equations.Equation.{Equation}

-- the slots of cells in a row are these cells
slot_at : (a n i : ℕ) (slot : Slot) → slice_get (map Cell (range_with_len a n)) i ≡ Some slot → (i < n) × (slot ≡ Cell (a + i))
slot_at a zero i slot found = absurd (none_some found)
  where
    none_some : None ≡ Some slot → ⊥
    none_some e = cc
slot_at a (suc n) zero slot found = (omega arith, sym (inside found) ∙ ap Cell (plus_zero a))
  where
    inside : Some (Cell a) ≡ Some slot → Cell a ≡ slot
    inside e = cc

    plus_zero : (a : ℕ) → a ≡ a + 0
    plus_zero a = omega arith
slot_at a (suc n) (suc i) slot found =
    let rest = slot_at (a + 1) n i slot found in
    let within : i < n = rest.0 in
    (omega arith, rest.1 ∙ ap Cell (one_on a i))
  where
    one_on : (a i : ℕ) → a + 1 + i ≡ a + suc i
    one_on a i = omega arith

-- those of the machine
its_slot : (i : ℕ) (slot : Slot) → slice_get register_slots i ≡ Some slot → (i < 10) × (slot ≡ Cell i)
unfolding register_slots
its_slot i slot found =
    let at = slot_at 0 10 i slot found in
    (at.0, at.1 ∙ ap Cell (zero-add i))

module _ (equations : List Equation) where
  has_pins : HasPins (machine equations)
  has_pins = record {
    cells = omega arith;
    first = λ c within. omega arith;
    last = λ c within. omega arith;
    no_clock = λ c within e. omega arith;
    apart = λ c d c_in d_in e. omega arith;
    clock = omega arith;
  }

  each : (c : ℕ) → c < 10 → sets_pin (machine equations) (machine equations).slots (23 - c) ≡ true
  unfolding register_slots
  each zero within = refl
  each (suc zero) within = refl
  each (suc (suc zero)) within = refl
  each (suc (suc (suc zero))) within = refl
  each (suc (suc (suc (suc zero)))) within = refl
  each (suc (suc (suc (suc (suc zero))))) within = refl
  each (suc (suc (suc (suc (suc (suc zero)))))) within = refl
  each (suc (suc (suc (suc (suc (suc (suc zero))))))) within = refl
  each (suc (suc (suc (suc (suc (suc (suc (suc zero)))))))) within = refl
  each (suc (suc (suc (suc (suc (suc (suc (suc (suc zero))))))))) within = refl
  each (suc (suc (suc (suc (suc (suc (suc (suc (suc (suc c)))))))))) within = absurd (omega arith)

  in_range : (i : ℕ) (slot : Slot) → slice_get (machine equations).slots i ≡ Some slot → InRange (machine equations) slot
  in_range i slot found =
      let at = its_slot i slot found in
      rw at.1 at.0

  once : (i j : ℕ) (slot : Slot) → slice_get (machine equations).slots i ≡ Some slot → slice_get (machine equations).slots j ≡ Some slot → i ≡ j
  once i j slot here there = same (sym (its_slot i slot here).1 ∙ (its_slot j slot there).1)
    where
      same : Cell i ≡ Cell j → i ≡ j
      same e = cc

  reads : ReadsEarlier (machine equations)
  reads i slot found =
      rw (its_slot i slot found).1 (λ a b d. (refl, λ on. ap (λ q. is_on q i) d.q))

  resets : ResetsWithoutQ (machine equations)
  resets outside a b a_is b_is a_settled b_settled c register = refl

  pub machine_ordered : IsOrdered (machine equations)
  machine_ordered = record {
    has_pins = has_pins;
    has_slots = record { range = in_range; each = each; once = once };
    reads = reads;
    resets = resets;
  }
