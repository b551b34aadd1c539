-- Slots that are settled one after another leave a point at which each has its value, and the only
-- one.
use Rattle.std.proofs.Common.{◌≡◌, ◌≢◌, ◌⊎◌, ℕ, ◌<◌, Bool, true, false, ◌||◌, ◌==◌, if◌then◌else◌, List, [], ◌∷◌, length, refl, ap, sym, ◌∙◌, subst, inl, inr, length-set, get_or-set_same, get_or-set_other}
use Rattle.pld_machine.proofs.Common.{cases_Bool, or_parts, cond-true, cond-false, true≢false, eqb-false, eqb-true, eq-eqb, is_on, Levels, IsPoint, Lookups, sets_pin, sets_node, DifferOnlyIn, SameAt, ReadsNone, with_pin, settle_slot, settle, Slot, Cell, Node}

-- the slot's place is not that of one of these
abbrev pub IsFresh : Lookups → Slot → List Slot → Type 0
IsFresh m (Cell c) slots = (sets_pin m slots (m.pin c) ≡ false) × (m.pin c < 32)
IsFresh m (Node n) slots = (sets_node slots n ≡ false) × (n < 128)

-- each slot of the list reads none from itself on, and has a place of its own
abbrev pub InOrder : Lookups → List Slot → Type 0
InOrder m [] = Unit {0}
InOrder m (slot ∷ slots) = ReadsNone m (slot ∷ slots) slot × IsFresh m slot slots × InOrder m slots

abbrev pub SettledAt : Lookups → List Bool → Levels → Slot → Type 0
SettledAt m outside at (Cell c) = is_on at.pins (m.pin c) ≡ (if m.enable at c then m.level at c else is_on outside (m.pin c))
SettledAt m outside at (Node n) = is_on at.nodes n ≡ m.node at n

abbrev pub AllSettled : Lookups → List Bool → Levels → List Slot → Type 0
AllSettled m outside at [] = Unit {0}
AllSettled m outside at (slot ∷ slots) = SettledAt m outside at slot × AllSettled m outside at slots

-- one slot changes its own place alone
pub slot_pins : (m : Lookups) (at : Levels) (slot : Slot) (slots : List Slot) (k : ℕ) → sets_pin m (slot ∷ slots) k ≡ false → is_on (settle_slot m at slot).pins k ≡ is_on at.pins k
slot_pins m at (Node n) slots k free = refl
slot_pins m at (Cell c) slots k free = by_cases (cases_Bool (m.enable at c))
  where
    other : k ≢ m.pin c
    other = λ e. eqb-false (m.pin c) k (or_parts _ _ free).0 (sym e)

    by_cases : (m.enable at c ≡ true) ⊎ (m.enable at c ≡ false) → is_on (settle_slot m at (Cell c)).pins k ≡ is_on at.pins k
    by_cases (inl e) = rw e (get_or-set_other at.pins (m.pin c) k (m.level at c) false other)
    by_cases (inr e) = rw e refl

pub slot_nodes : (m : Lookups) (at : Levels) (slot : Slot) (slots : List Slot) (n : ℕ) → sets_node (slot ∷ slots) n ≡ false → is_on (settle_slot m at slot).nodes n ≡ is_on at.nodes n
slot_nodes m at (Node i) slots n free = get_or-set_other at.nodes i n (m.node at i) false (λ e. eqb-false i n (or_parts _ _ free).0 (sym e))
slot_nodes m at (Cell c) slots n free = by_cases (cases_Bool (m.enable at c))
  where
    by_cases : (m.enable at c ≡ true) ⊎ (m.enable at c ≡ false) → is_on (settle_slot m at (Cell c)).nodes n ≡ is_on at.nodes n
    by_cases (inl e) = rw e refl
    by_cases (inr e) = rw e refl

pub slot_q : (m : Lookups) (at : Levels) (slot : Slot) → (settle_slot m at slot).q ≡ at.q
slot_q m at (Node n) = refl
slot_q m at (Cell c) = by_cases (cases_Bool (m.enable at c))
  where
    by_cases : (m.enable at c ≡ true) ⊎ (m.enable at c ≡ false) → (settle_slot m at (Cell c)).q ≡ at.q
    by_cases (inl e) = rw e refl
    by_cases (inr e) = rw e refl

pub slot_point : (m : Lookups) (at : Levels) (slot : Slot) → IsPoint at → IsPoint (settle_slot m at slot)
slot_point m at (Node n) is = record { pins = is.pins; q = is.q; nodes = length-set at.nodes n (m.node at n) ∙ is.nodes }
slot_point m at (Cell c) is = by_cases (cases_Bool (m.enable at c))
  where
    by_cases : (m.enable at c ≡ true) ⊎ (m.enable at c ≡ false) → IsPoint (settle_slot m at (Cell c))
    by_cases (inl e) = rw e (let p : IsPoint (with_pin at (m.pin c) (m.level at c)) = record { pins = length-set at.pins (m.pin c) (m.level at c) ∙ is.pins; q = is.q; nodes = is.nodes } in p)
    by_cases (inr e) = rw e is

-- the part of `||` after a slot
pub free_pin : (m : Lookups) (slot : Slot) (slots : List Slot) (k : ℕ) → sets_pin m (slot ∷ slots) k ≡ false → sets_pin m slots k ≡ false
free_pin m (Cell c) slots k free = (or_parts _ _ free).1
free_pin m (Node n) slots k free = free

pub free_node : (slot : Slot) (slots : List Slot) (n : ℕ) → sets_node (slot ∷ slots) n ≡ false → sets_node slots n ≡ false
free_node (Cell c) slots n free = free
free_node (Node i) slots n free = (or_parts _ _ free).1

-- settling slots changes their places alone
pub unchanged : (m : Lookups) (at : Levels) (slots : List Slot) → DifferOnlyIn m slots (settle m at slots) at
unchanged m at [] = record { pins = λ k free. refl; q = refl; nodes = λ n free. refl }
unchanged m at (slot ∷ slots) =
    let rest = unchanged m (settle_slot m at slot) slots in
    record {
      pins = λ k free. rest.pins k (free_pin m slot slots k free) ∙ slot_pins m at slot slots k free;
      q = rest.q ∙ slot_q m at slot;
      nodes = λ n free. rest.nodes n (free_node slot slots n free) ∙ slot_nodes m at slot slots n free;
    }

pub settled_point : (m : Lookups) (at : Levels) (slots : List Slot) → IsPoint at → IsPoint (settle m at slots)
settled_point m at [] is = is
settled_point m at (slot ∷ slots) is = settled_point m (settle_slot m at slot) slots (slot_point m at slot is)

pub differ_sym : (m : Lookups) (slots : List Slot) (a b : Levels) → DifferOnlyIn m slots a b → DifferOnlyIn m slots b a
differ_sym m slots a b d = record { pins = λ k free. sym (d.pins k free); q = sym d.q; nodes = λ n free. sym (d.nodes n free) }

-- what a slot puts at its own place
pub slot_value : (m : Lookups) (outside : List Bool) (at : Levels) (c : ℕ) → IsPoint at → m.pin c < 32 → is_on at.pins (m.pin c) ≡ is_on outside (m.pin c) → is_on (settle_slot m at (Cell c)).pins (m.pin c) ≡ (if m.enable at c then m.level at c else is_on outside (m.pin c))
slot_value m outside at c is low from = by_cases (cases_Bool (m.enable at c))
  where
    long : m.pin c < length at.pins
    long = subst (λ l. m.pin c < l) (sym is.pins) low

    by_cases : (m.enable at c ≡ true) ⊎ (m.enable at c ≡ false) → is_on (settle_slot m at (Cell c)).pins (m.pin c) ≡ (if m.enable at c then m.level at c else is_on outside (m.pin c))
    by_cases (inl e) = rw e (get_or-set_same at.pins (m.pin c) (m.level at c) false long)
    by_cases (inr e) = rw e from

-- the same value at two points at which the slot reads the same
pub same_value : (m : Lookups) (outside : List Bool) (a b : Levels) (c : ℕ) → SameAt m (Cell c) a b → (if m.enable a c then m.level a c else is_on outside (m.pin c)) ≡ (if m.enable b c then m.level b c else is_on outside (m.pin c))
same_value m outside a b c same = by_cases (cases_Bool (m.enable a c))
  where
    by_cases : (m.enable a c ≡ true) ⊎ (m.enable a c ≡ false) → (if m.enable a c then m.level a c else is_on outside (m.pin c)) ≡ (if m.enable b c then m.level b c else is_on outside (m.pin c))
    by_cases (inl e) = cond-true _ _ _ e ∙ (same.1 e ∙ sym (cond-true _ _ _ (sym same.0 ∙ e)))
    by_cases (inr e) = cond-false _ _ _ e ∙ sym (cond-false _ _ _ (sym same.0 ∙ e))

-- the pins of the slots that are left have their outside levels
abbrev pub FromOutside : Lookups → List Bool → Levels → List Slot → Type 0
FromOutside m outside at slots = (k : ℕ) → sets_pin m slots k ≡ true → is_on at.pins k ≡ is_on outside k

pub from_more : (m : Lookups) (outside : List Bool) (at : Levels) (slot : Slot) (slots : List Slot) → IsFresh m slot slots → FromOutside m outside at (slot ∷ slots) → FromOutside m outside (settle_slot m at slot) slots
from_more m outside at (Node n) slots fresh from k sets = from k sets
from_more m outside at (Cell c) slots fresh from k sets = slot_pins m at (Cell c) [] k alone ∙ from k (or_right' (m.pin c == k) sets)
  where
    or_right' : (b : Bool) {x : Bool} → x ≡ true → (b || x) ≡ true
    or_right' true e = refl
    or_right' false e = e

    alone : ((m.pin c == k) || false) ≡ false
    alone = by_cases (cases_Bool (m.pin c == k))
      where
        by_cases : ((m.pin c == k) ≡ true) ⊎ ((m.pin c == k) ≡ false) → ((m.pin c == k) || false) ≡ false
        by_cases (inl e) = absurd (true≢false (sym sets ∙ (ap (sets_pin m slots) (sym (eqb-true (m.pin c) k e)) ∙ fresh.0)))
        by_cases (inr e) = rw e refl

-- each slot has its value in the end
pub settles : (m : Lookups) (outside : List Bool) (at : Levels) (slots : List Slot) → InOrder m slots → IsPoint at → FromOutside m outside at slots → AllSettled m outside (settle m at slots) slots
settles m outside at [] order is from = tt
settles m outside at (Cell c ∷ slots) order is from = (here, settles m outside (settle_slot m at (Cell c)) slots order.2 (slot_point m at (Cell c) is) (from_more m outside at (Cell c) slots order.1 from))
  where
    here : SettledAt m outside (settle m at (Cell c ∷ slots)) (Cell c)
    here =
        (unchanged m (settle_slot m at (Cell c)) slots).pins (m.pin c) order.1.0
        ∙ (slot_value m outside at c is order.1.1 (from (m.pin c) (own (m.pin c)))
        ∙ same_value m outside at (settle m at (Cell c ∷ slots)) c (order.0 at (settle m at (Cell c ∷ slots)) (differ_sym m (Cell c ∷ slots) (settle m at (Cell c ∷ slots)) at (unchanged m at (Cell c ∷ slots)))))
      where
        own : (k : ℕ) → ((k == k) || sets_pin m slots k) ≡ true
        own k = rw (eq-eqb k k refl) refl
settles m outside at (Node n ∷ slots) order is from = (here, settles m outside (settle_slot m at (Node n)) slots order.2 (slot_point m at (Node n) is) (from_more m outside at (Node n) slots order.1 from))
  where
    here : SettledAt m outside (settle m at (Node n ∷ slots)) (Node n)
    here =
        (unchanged m (settle_slot m at (Node n)) slots).nodes n order.1.0
        ∙ (get_or-set_same at.nodes n (m.node at n) false (subst (λ l. n < l) (sym is.nodes) order.1.1)
        ∙ order.0 at (settle m at (Node n ∷ slots)) (differ_sym m (Node n ∷ slots) (settle m at (Node n ∷ slots)) at (unchanged m at (Node n ∷ slots))))

-- two points in which each slot has its value are the same, if they are the same elsewhere
pub only : (m : Lookups) (outside : List Bool) (a b : Levels) (slots : List Slot) → InOrder m slots → AllSettled m outside a slots → AllSettled m outside b slots → DifferOnlyIn m slots a b → DifferOnlyIn m [] a b
only m outside a b [] order x y d = d
only m outside a b (Cell c ∷ slots) order x y d = only m outside a b slots order.2 x.1 y.1 (record { pins = pins; q = d.q; nodes = d.nodes })
  where
    here : is_on a.pins (m.pin c) ≡ is_on b.pins (m.pin c)
    here = x.0 ∙ (same_value m outside a b c (order.0 a b d) ∙ sym y.0)

    pins : (k : ℕ) → sets_pin m slots k ≡ false → is_on a.pins k ≡ is_on b.pins k
    pins k free = by_cases (cases_Bool (m.pin c == k))
      where
        by_cases : ((m.pin c == k) ≡ true) ⊎ ((m.pin c == k) ≡ false) → is_on a.pins k ≡ is_on b.pins k
        by_cases (inl e) = subst (λ i. is_on a.pins i ≡ is_on b.pins i) (eqb-true (m.pin c) k e) here
        by_cases (inr e) = d.pins k (rw e free)
only m outside a b (Node n ∷ slots) order x y d = only m outside a b slots order.2 x.1 y.1 (record { pins = d.pins; q = d.q; nodes = nodes })
  where
    here : is_on a.nodes n ≡ is_on b.nodes n
    here = x.0 ∙ (order.0 a b d ∙ sym y.0)

    nodes : (k : ℕ) → sets_node slots k ≡ false → is_on a.nodes k ≡ is_on b.nodes k
    nodes k free = by_cases (cases_Bool (n == k))
      where
        by_cases : ((n == k) ≡ true) ⊎ ((n == k) ≡ false) → is_on a.nodes k ≡ is_on b.nodes k
        by_cases (inl e) = subst (λ i. is_on a.nodes i ≡ is_on b.nodes i) (eqb-true n k e) here
        by_cases (inr e) = d.nodes k (rw e free)
