-- The settled point is the one at rest.
use Rattle.std.proofs.Common.{◌≡◌, ◌≢◌, ℕ, suc, zero, ◌<◌, Bool, true, false, not, ◌&&◌, if◌then◌else◌, nat_lt, List, [], ◌∷◌, length, take, slice_get, Some, refl, ap, sym, ◌∙◌, subst, arith, inl, inr, IfSome}
use Rattle.pld_machine.proofs.Common.{cases_Bool, cond-true, cond-false, is_on, same_level, Levels, IsPoint, is_register, Lookups, sets_pin, sets_node, logic_of, IsOrdered, IsSettled, q_at_rest, settle_slot, settle, start, settled_of, IsTheRest, length-bits, is_on-zero, same_levels, Slot, Cell, Node}
use Rattle.pld_machine.proofs.Settles.{SettledAt, AllSettled, unchanged, settled_point, settles, only}
use Rattle.pld_machine.proofs.Settled.{same_true, all_settled, settled_differ}
use Rattle.pld_machine.proofs.Ordered.{setter_of_node, setter_of_pin, in_order, cell_slot}

make : List Bool → List Bool → List Bool → Levels
make pins q nodes = record { pins = pins; q = q; nodes = nodes }

pub levels_equal : (a b : Levels) → a.pins ≡ b.pins → a.q ≡ b.q → a.nodes ≡ b.nodes → a ≡ b
unfolding make
levels_equal a b pins q nodes =
    let first : make a.pins a.q a.nodes ≡ make b.pins a.q a.nodes = ap (λ p. make p a.q a.nodes) pins in
    let second : make b.pins a.q a.nodes ≡ make b.pins b.q a.nodes = ap (λ p. make b.pins p a.nodes) q in
    let third : make b.pins b.q a.nodes ≡ make b.pins b.q b.nodes = ap (λ p. make b.pins b.q p) nodes in
    first ∙ (second ∙ third)

-- one slot more
pub settle_more : (m : Lookups) (at : Levels) (slots : List Slot) (i : ℕ) (p next : Levels) → i < length slots → p ≡ settle m at (take i slots) → IfSome (slice_get slots i) (λ slot. next ≡ settle_slot m p slot) → next ≡ settle m at (take (suc i) slots)
settle_more m at [] i p next within so here = absurd (omega arith)
settle_more m at (slot ∷ slots) zero p next within so here = here ∙ ap (λ x. settle_slot m x slot) so
settle_more m at (slot ∷ slots) (suc i) p next within so here = settle_more m (settle_slot m at slot) slots i p next (omega arith) so here

-- what holds of each slot
all_at : (m : Lookups) (outside : List Bool) (at : Levels) (slots : List Slot) (i : ℕ) (slot : Slot) → AllSettled m outside at slots → slice_get slots i ≡ Some slot → SettledAt m outside at slot
all_at m outside at [] i slot all found = absurd (cc)
all_at m outside at (x ∷ slots) zero slot all found = subst (SettledAt m outside at) (inside x slot found) all.0
  where
    inside : (a b : Slot) → Some a ≡ Some b → a ≡ b
    inside a b e = cc
all_at m outside at (x ∷ slots) (suc i) slot all found = all_at m outside at slots i slot all.1 found

module _ (m : Lookups) (ordered : IsOrdered m) (outside : List Bool) (outside_length : length outside ≡ 32) where
  pub settled_is_point : (q : List Bool) → length q ≡ 32 → IsPoint (settled_of m outside q)
  settled_is_point q q_length = settled_point m (start outside q) m.slots (record { pins = outside_length; q = q_length; nodes = length-bits 128 0 })

  settled_q : (q : List Bool) → (settled_of m outside q).q ≡ q
  settled_q q = (unchanged m (start outside q) m.slots).q

  each_settled : (q : List Bool) → length q ≡ 32 → AllSettled m outside (settled_of m outside q) m.slots
  each_settled q q_length = settles m outside (start outside q) m.slots (in_order m ordered) (record { pins = outside_length; q = q_length; nodes = length-bits 128 0 }) (λ k sets. refl)

  pub is_settled : (q : List Bool) → length q ≡ 32 → IsSettled (logic_of m) outside (settled_of m outside q)
  is_settled q q_length = record { driven = driven; undriven = undriven; nodes = nodes; no_node = no_node }
    where
      value : (c i : ℕ) → slice_get m.slots i ≡ Some (Cell c) → is_on (settled_of m outside q).pins (m.pin c) ≡ (if m.enable (settled_of m outside q) c then m.level (settled_of m outside q) c else is_on outside (m.pin c))
      value c i found = all_at m outside (settled_of m outside q) m.slots i (Cell c) (each_settled q q_length) found

      driven : (c : ℕ) → c < m.cells → m.enable (settled_of m outside q) c ≡ true → same_level (is_on (settled_of m outside q).pins (m.pin c)) (m.level (settled_of m outside q) c) ≡ true
      driven c within enabled = same_true _ _ (value c (cell_slot m ordered.has_pins ordered.has_slots c within).at (cell_slot m ordered.has_pins ordered.has_slots c within).is ∙ cond-true _ _ _ enabled)

      undriven : (k : ℕ) → k < 32 → ((c : ℕ) → c < m.cells → m.enable (settled_of m outside q) c ≡ true → m.pin c ≢ k) → is_on (settled_of m outside q).pins k ≡ is_on outside k
      undriven k low none =
          elim (cases_Bool (sets_pin m m.slots k)) [
            | inl sets ↦
                let found = setter_of_pin m m.slots k sets in
                let off : m.enable (settled_of m outside q) found.cell ≡ false =
                elim (cases_Bool (m.enable (settled_of m outside q) found.cell)) [
                  | inl on ↦ absurd (none found.cell (ordered.has_slots.range found.at (Cell found.cell) found.is) on found.pin)
                  | inr off ↦ off
                ] in
                subst (λ i. is_on (settled_of m outside q).pins i ≡ is_on outside i) found.pin (value found.cell found.at found.is ∙ cond-false _ _ _ off)
            | inr free ↦ (unchanged m (start outside q) m.slots).pins k free
          ]

      nodes : (n : ℕ) → n < 128 → sets_node m.slots n ≡ true → same_level (is_on (settled_of m outside q).nodes n) (m.node (settled_of m outside q) n) ≡ true
      nodes n low sets = let found = setter_of_node m.slots n sets in same_true _ _ (all_at m outside (settled_of m outside q) m.slots found.at (Node n) (each_settled q q_length) found.is)

      no_node : (n : ℕ) → n < 128 → sets_node m.slots n ≡ false → is_on (settled_of m outside q).nodes n ≡ false
      no_node n low free = (unchanged m (start outside q) m.slots).nodes n free ∙ is_on-zero 128 n low

  -- there is one settled point for each list of Qs
  pub one_settled : (a b : Levels) → IsPoint a → IsPoint b → IsSettled (logic_of m) outside a → IsSettled (logic_of m) outside b → a.q ≡ b.q → a ≡ b
  one_settled a b a_is b_is a_settled b_settled q =
      let d = only m outside a b m.slots (in_order m ordered) (all_settled m ordered.has_pins ordered.has_slots outside a a_settled m.slots 0 refl) (all_settled m ordered.has_pins ordered.has_slots outside b b_settled m.slots 0 refl) (settled_differ m ordered.has_pins ordered.has_slots outside a b a_is b_is a_settled b_settled q) in
      let pins : a.pins ≡ b.pins = same_levels a.pins b.pins (a_is.pins ∙ sym b_is.pins) (λ k low. d.pins k refl) in
      let nodes : a.nodes ≡ b.nodes = same_levels a.nodes b.nodes (a_is.nodes ∙ sym b_is.nodes) (λ k low. d.nodes k refl) in
      levels_equal a b pins q nodes

  -- resets are the same at settled points
  same_resting : (stored : List Bool) (a b : Levels) → IsPoint a → IsPoint b → IsSettled (logic_of m) outside a → IsSettled (logic_of m) outside b → (c : ℕ) → q_at_rest (logic_of m) stored a c ≡ q_at_rest (logic_of m) stored b c
  same_resting stored a b a_is b_is a_settled b_settled c =
      elim (cases_Bool (is_register (logic_of m) c)) [
        | inl register ↦ ap (λ r. nat_lt c m.cells && m.stores c && (not r && is_on stored c)) (ordered.resets outside a b a_is b_is a_settled b_settled c register)
        | inr other ↦ rw other refl
      ]

  -- the point that is settled with the Qs that rest at another settled point
  pub is_the_rest : (stored q first : List Bool) → length first ≡ 32 → length q ≡ 32 → ((c : ℕ) → c < 32 → is_on q c ≡ q_at_rest (logic_of m) stored (settled_of m outside first) c) → IsTheRest (logic_of m) outside stored (settled_of m outside q)
  is_the_rest stored q first first_length q_length here = record {
    at_rest = record { is_point = settled_is_point q q_length; registers = registers; settled = is_settled q q_length };
    only = λ other rests. one_settled other (settled_of m outside q) rests.is_point (settled_is_point q q_length) rests.settled (is_settled q q_length)
        (same_levels other.q (settled_of m outside q).q (rests.is_point.q ∙ sym (settled_is_point q q_length).q)
        (λ c low. rests.registers c (subst (λ l. c < l) rests.is_point.q low) ∙ (same_resting stored other (settled_of m outside q) rests.is_point (settled_is_point q q_length) rests.settled (is_settled q q_length) c ∙ sym (registers c (subst (λ l. c < l) rests.is_point.q low)))));
  }
    where
      registers : (c : ℕ) → c < 32 → is_on (settled_of m outside q).q c ≡ q_at_rest (logic_of m) stored (settled_of m outside q) c
      registers c low =
          ap (λ xs. is_on xs c) (settled_q q)
          ∙ (here c low ∙ same_resting stored (settled_of m outside first) (settled_of m outside q) (settled_is_point first first_length) (settled_is_point q q_length) (is_settled first first_length) (is_settled q q_length) c)
