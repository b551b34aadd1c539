-- What the order of the slots gives.
use Rattle.std.proofs.Common.{◌≡◌, ℕ, suc, zero, ◌+◌, ◌<◌, true, ◌==◌, List, [], ◌∷◌, drop, slice_get, Some, None, refl, ap, sym, ◌∙◌, subst, arith, inl, inr, zero-add, suc-add, add-zero, drop-drop}
use Rattle.pld_machine.proofs.Common.{or_left, or_right, or_cases, true≢false, eqb-true, eq-eqb, false_from_ne_true, Slot, Cell, Node, Lookups, sets_pin, sets_node, ReadsNone, HasPins, HasSlots, IsOrdered}
use Rattle.pld_machine.proofs.Settles.{IsFresh, InOrder}

some_same : (a b : Slot) → Some a ≡ Some b → a ≡ b
some_same a b e = cc

none_some : (b : Slot) → None ≡ Some b → ⊥
none_some b e = cc

-- a slot of the list sets its place
pub node_set : (slots : List Slot) (i n : ℕ) → slice_get slots i ≡ Some (Node n) → sets_node slots n ≡ true
node_set [] i n found = absurd (none_some (Node n) found)
node_set (slot ∷ slots) zero n found = subst (λ s. sets_node (s ∷ slots) n ≡ true) (sym (some_same slot (Node n) found)) (or_left (n == n) (sets_node slots n) (eq-eqb n n refl))
node_set (Cell c ∷ slots) (suc i) n found = node_set slots i n found
node_set (Node k ∷ slots) (suc i) n found = or_right (k == n) (sets_node slots n) (node_set slots i n found)

pub pin_set : (m : Lookups) (slots : List Slot) (i c : ℕ) → slice_get slots i ≡ Some (Cell c) → sets_pin m slots (m.pin c) ≡ true
pin_set m [] i c found = absurd (none_some (Cell c) found)
pin_set m (slot ∷ slots) zero c found = subst (λ s. sets_pin m (s ∷ slots) (m.pin c) ≡ true) (sym (some_same slot (Cell c) found)) (or_left (m.pin c == m.pin c) (sets_pin m slots (m.pin c)) (eq-eqb (m.pin c) (m.pin c) refl))
pin_set m (Node k ∷ slots) (suc i) c found = pin_set m slots i c found
pin_set m (Cell d ∷ slots) (suc i) c found = or_right (m.pin d == m.pin c) (sets_pin m slots (m.pin c)) (pin_set m slots i c found)

-- a place that is set is set by some slot
pub record NodeAt (slots : List Slot) (n : ℕ) : Type 0 where
  pub at : ℕ
  pub is : slice_get slots at ≡ Some (Node n)

pub record PinAt (m : Lookups) (slots : List Slot) (k : ℕ) : Type 0 where
  pub cell : ℕ
  pub pin : m.pin cell ≡ k
  pub at : ℕ
  pub is : slice_get slots at ≡ Some (Cell cell)

pub setter_of_node : (slots : List Slot) (n : ℕ) → sets_node slots n ≡ true → NodeAt slots n
setter_of_node [] n sets = absurd (true≢false (sym sets))
setter_of_node (Cell c ∷ slots) n sets = let found = setter_of_node slots n sets in record { at = suc found.at; is = found.is }
setter_of_node (Node k ∷ slots) n sets =
    elim (or_cases (k == n) (sets_node slots n) sets) [
      | inl e ↦ record { at = 0; is = ap (λ x. Some (Node x)) (eqb-true k n e) }
      | inr e ↦ let found = setter_of_node slots n e in record { at = suc found.at; is = found.is }
    ]

pub setter_of_pin : (m : Lookups) (slots : List Slot) (k : ℕ) → sets_pin m slots k ≡ true → PinAt m slots k
setter_of_pin m [] k sets = absurd (true≢false (sym sets))
setter_of_pin m (Node n ∷ slots) k sets = let found = setter_of_pin m slots k sets in record { cell = found.cell; pin = found.pin; at = suc found.at; is = found.is }
setter_of_pin m (Cell c ∷ slots) k sets =
    elim (or_cases (m.pin c == k) (sets_pin m slots k) sets) [
      | inl e ↦ record { cell = c; pin = eqb-true (m.pin c) k e; at = 0; is = refl }
      | inr e ↦ let found = setter_of_pin m slots k e in record { cell = found.cell; pin = found.pin; at = suc found.at; is = found.is }
    ]

-- places in what is left of a list
pub get_behind : (xs : List Slot) (i j : ℕ) → slice_get (drop i xs) j ≡ slice_get xs (i + j)
get_behind xs zero j = rw zero-add refl
get_behind [] (suc i) j = refl
get_behind (x ∷ xs) (suc i) j = rw suc-add (get_behind xs i j)

pub next_drop : (xs : List Slot) (i : ℕ) (x : Slot) (rest : List Slot) → drop i xs ≡ x ∷ rest → drop (i + 1) xs ≡ rest
next_drop xs i x rest e = sym (drop-drop 1 i xs) ∙ ap (drop 1) e

pub at_drop : (xs : List Slot) (i : ℕ) (x : Slot) (rest : List Slot) → drop i xs ≡ x ∷ rest → slice_get xs i ≡ Some x
at_drop xs i x rest e = subst (λ k. slice_get xs k ≡ Some x) (add-zero i) (sym (get_behind xs i 0) ∙ ap (λ l. slice_get l 0) e)

behind : (xs : List Slot) (i j : ℕ) (x y : Slot) (rest : List Slot) → drop i xs ≡ x ∷ rest → slice_get rest j ≡ Some y → slice_get xs (i + 1 + j) ≡ Some y
behind xs i j x y rest e found = sym (get_behind xs (i + 1) j) ∙ (ap (λ l. slice_get l j) (next_drop xs i x rest e) ∙ found)

-- the slot of a cell
pub record CellAt (slots : List Slot) (c : ℕ) : Type 0 where
  pub at : ℕ
  pub is : slice_get slots at ≡ Some (Cell c)

pub cell_slot : (m : Lookups) → HasPins m → HasSlots m → (c : ℕ) → c < m.cells → CellAt m.slots c
cell_slot m has_pins has_slots c within =
    let found = setter_of_pin m m.slots (m.pin c) (has_slots.each c within) in
    let same : found.cell ≡ c = has_pins.apart found.cell c (has_slots.range found.at (Cell found.cell) found.is) within found.pin in
    record { at = found.at; is = found.is ∙ ap (λ d. Some (Cell d)) same }

module _ (m : Lookups) (ordered : IsOrdered m) where
  fresh : (i : ℕ) (slot : Slot) (rest : List Slot) → drop i m.slots ≡ slot ∷ rest → IsFresh m slot rest
  fresh i (Cell c) rest e = (false_from_ne_true (sets_pin m rest (m.pin c)) again, ordered.has_pins.last c here)
    where
      here : c < m.cells
      here = ordered.has_slots.range i (Cell c) (at_drop m.slots i (Cell c) rest e)

      again : sets_pin m rest (m.pin c) ≡ true → ⊥
      again sets =
          let found = setter_of_pin m rest (m.pin c) sets in
          let at = behind m.slots i found.at (Cell c) (Cell found.cell) rest e found.is in
          let same : found.cell ≡ c = ordered.has_pins.apart found.cell c (ordered.has_slots.range (i + 1 + found.at) (Cell found.cell) at) here found.pin in
          let twice : i + 1 + found.at ≡ i = ordered.has_slots.once (i + 1 + found.at) i (Cell c) (at ∙ ap (λ d. Some (Cell d)) same) (at_drop m.slots i (Cell c) rest e) in
          omega arith
  fresh i (Node n) rest e = (false_from_ne_true (sets_node rest n) again, ordered.has_slots.range i (Node n) (at_drop m.slots i (Node n) rest e))
    where
      again : sets_node rest n ≡ true → ⊥
      again sets =
          let found = setter_of_node rest n sets in
          let at = behind m.slots i found.at (Node n) (Node n) rest e found.is in
          let twice : i + 1 + found.at ≡ i = ordered.has_slots.once (i + 1 + found.at) i (Node n) at (at_drop m.slots i (Node n) rest e) in
          omega arith

  in_order_from : (slots : List Slot) (i : ℕ) → drop i m.slots ≡ slots → InOrder m slots
  in_order_from [] i e = tt
  in_order_from (slot ∷ slots) i e =
      (subst (λ l. ReadsNone m l slot) e (ordered.reads i slot (at_drop m.slots i slot slots e)), fresh i slot slots e, in_order_from slots (i + 1) (next_drop m.slots i slot slots e))

  pub in_order : InOrder m m.slots
  in_order = in_order_from m.slots 0 refl
