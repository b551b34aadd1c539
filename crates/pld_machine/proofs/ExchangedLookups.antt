-- Look-ups in order stay so with cells exchanged.
use Rattle.std.proofs.Common.{◌≡◌, ℕ, Bool, true, false, ◌||◌, ◌==◌, List, [], ◌∷◌, refl, sym, ap, ◌∙◌}
use Rattle.pld_machine.proofs.Common.{same_level, Levels, Slot, Cell, Node, Lookups, logic_of, sets_pin, DifferOnlyIn, InRange, IsOrdered, ReadsNone, Refines, IsSettled, ExchangedLookups, exchanged, exchanged_at, exchanged_lookups, exchanged_qs, in_sense}
use Rattle.pld_machine.proofs.ExchangedPoints.{point_exchanged}

module _ (x : ℕ → Bool) (m : Lookups) where
  pins_same : (slots : List Slot) (k : ℕ) → sets_pin (exchanged_lookups x m) slots k ≡ sets_pin m slots k
  pins_same [] k = refl
  pins_same (Cell c ∷ slots) k = ap (λ b. (m.pin c == k) || b) (pins_same slots k)
  pins_same (Node n ∷ slots) k = pins_same slots k

  differ_to : (slots : List Slot) (a b : Levels) → DifferOnlyIn (exchanged_lookups x m) slots a b → DifferOnlyIn m slots (exchanged_at x a) (exchanged_at x b)
  differ_to slots a b is = record {
    pins = λ k off. is.pins k (pins_same slots k ∙ off);
    q = ap (exchanged_qs x) is.q;
    nodes = is.nodes;
  }

  reads_none : (slots : List Slot) (slot : Slot) → ReadsNone m slots slot → ReadsNone (exchanged_lookups x m) slots slot
  reads_none slots (Cell c) none a b is = none (exchanged_at x a) (exchanged_at x b) (differ_to slots a b is)
  reads_none slots (Node n) none a b is = none (exchanged_at x a) (exchanged_at x b) (differ_to slots a b is)

  settled_to : (outside : List Bool) (a : Levels) → IsSettled (logic_of (exchanged_lookups x m)) outside a → IsSettled (logic_of m) outside (exchanged_at x a)
  settled_to outside a is = record { driven = is.driven; undriven = is.undriven; nodes = is.nodes; no_node = is.no_node }

  ordered : IsOrdered m → IsOrdered (exchanged_lookups x m)
  ordered is = record {
    has_pins = record { cells = is.has_pins.cells; first = is.has_pins.first; last = is.has_pins.last; no_clock = is.has_pins.no_clock; apart = is.has_pins.apart; clock = is.has_pins.clock };
    has_slots = record {
      range = λ i slot there. in_range slot (is.has_slots.range i slot there);
      each = λ c within. pins_same m.slots (m.pin c) ∙ is.has_slots.each c within;
      once = is.has_slots.once;
    };
    reads = λ i slot there. reads_none _ slot (is.reads i slot there);
    resets = λ outside a b a_is b_is a_settled b_settled c register.
        is.resets outside (exchanged_at x a) (exchanged_at x b) (point_exchanged x a a_is) (point_exchanged x b b_is) (settled_to outside a a_settled) (settled_to outside b b_settled) c register;
  }
    where
      in_range : (slot : Slot) → InRange m slot → InRange (exchanged_lookups x m) slot
      in_range (Cell c) within = within
      in_range (Node n) within = within

  complement_same : (b v w : Bool) → same_level v (in_sense b w) ≡ same_level (in_sense b v) w
  complement_same true true true = refl
  complement_same true true false = refl
  complement_same true false true = refl
  complement_same true false false = refl
  complement_same false v w = refl

  to : Refines (logic_of (exchanged_lookups x m)) (exchanged x (logic_of m))
  to = record {
    same_cells = record { cells = refl; pin = λ c within. refl; stores = λ c within. refl; clock = refl };
    is_node = λ n low. refl;
    allows = λ at is. record {
      enabled = λ c within. refl;
      level = λ c within on v allowed. allowed;
      reset = λ c within kept. refl;
      preset = λ c within kept. refl;
      next = λ c within kept v allowed. sym (complement_same (x c) v (m.next (exchanged_at x at) c)) ∙ allowed;
    };
    node = λ at is n low v allowed. allowed;
  }

  from : Refines (exchanged x (logic_of m)) (logic_of (exchanged_lookups x m))
  from = record {
    same_cells = record { cells = refl; pin = λ c within. refl; stores = λ c within. refl; clock = refl };
    is_node = λ n low. refl;
    allows = λ at is. record {
      enabled = λ c within. refl;
      level = λ c within on v allowed. allowed;
      reset = λ c within kept. refl;
      preset = λ c within kept. refl;
      next = λ c within kept v allowed. complement_same (x c) v (m.next (exchanged_at x at) c) ∙ allowed;
    };
    node = λ at is n low v allowed. allowed;
  }

pub lookups_exchanged : ExchangedLookups
lookups_exchanged x m = (ordered x m, to x m, from x m)
