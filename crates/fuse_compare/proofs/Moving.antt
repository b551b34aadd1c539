-- States that have the same known pins and Qs settle at points that have them the same.
use Rattle.std.proofs.Common.{◌≡◌, ◌≢◌, ◌⊎◌, ℕ, suc, ◌<◌, Bool, true, false, List, [], ◌∷◌, slice_get, set, Some, refl, ap, sym, ◌∙◌, subst, arith, inl, inr, get_or-set_same, get_or-set_other}
use Rattle.fuse_compare.proofs.Common.{cases_Bool, cases_eq, and_parts, true≢false, ltb-true, is_on, Levels, IsPoint, Lookups, logic_of, IsWide, IsOrdered, InRange, AtRest, q_at_rest, settle_slot, settle, start, settled_of, filled, rest_of, rests_once, is_on-filled, length-filled, length-bits, Known, AgreeOn, IsToldBy}
use Rattle.pld_machine.specs.declared.logic.Slot.{Slot}
use Rattle.pld_machine.specs.declared.logic.Slot.TheVariants.{Cell, Node}
use Rattle.pld_machine.proofs.Settles.{slot_point}

-- the outside levels and Qs are the same, as far as they are known
abbrev pub SameKnown : Known → (o o' q q' : List Bool) → Type 0
SameKnown known o o' q q' = ((k : ℕ) → known.pins k ≡ true → is_on o k ≡ is_on o' k) × ((c : ℕ) → known.q c ≡ true → is_on q c ≡ is_on q' c)

module _ (m : Lookups) (known : Known) (flips : ℕ → Bool) (told : IsToldBy m known flips) (ordered : IsOrdered m) where
  -- the pin of a slot after it, at two points that agree
  pin_agrees : (a b : Levels) (c k : ℕ) (on : Bool) → IsPoint a → IsPoint b → m.pin c < 32 → known.pins k ≡ true → (is_on a.pins k ≡ is_on b.pins k)
      → is_on (set a.pins (m.pin c) on) k ≡ is_on (set b.pins (m.pin c) on) k
  pin_agrees a b c k on a_is b_is low is same =
      elim (cases_eq k (m.pin c)) [
        | inl here ↦ rw here (get_or-set_same a.pins (m.pin c) on false (subst (λ l. m.pin c < l) (sym a_is.pins) low) ∙ sym (get_or-set_same b.pins (m.pin c) on false (subst (λ l. m.pin c < l) (sym b_is.pins) low)))
        | inr other ↦ get_or-set_other a.pins (m.pin c) k on false other ∙ (same ∙ sym (get_or-set_other b.pins (m.pin c) k on false other))
      ]

  cell_agrees : (a b : Levels) (c : ℕ) → IsPoint a → IsPoint b → c < m.cells → AgreeOn known a b → AgreeOn known (settle_slot m a (Cell c)) (settle_slot m b (Cell c))
  cell_agrees a b c a_is b_is within agree = by_enable (cases_Bool (m.enable a c))
    where
      low : m.pin c < 32
      low = ordered.has_pins.last c within

      driven : m.enable a c ≡ true → (m.stores c ≡ true) ⊎ (m.stores c ≡ false) → AgreeOn known (settle_slot m a (Cell c)) (settle_slot m b (Cell c))
      driven on (inr plain) =
          rw (on, sym (told.enable a b agree c within) ∙ on, told.level a b agree c within plain)
          (let r : AgreeOn known (record { pins = set a.pins (m.pin c) (m.level b c); q = a.q; nodes = a.nodes }) (record { pins = set b.pins (m.pin c) (m.level b c); q = b.q; nodes = b.nodes }) =
          record { pins = λ k is. pin_agrees a b c k (m.level b c) a_is b_is low is (agree.pins k is); q = agree.q } in r)
      driven on (inl register) =
          rw (on, sym (told.enable a b agree c within) ∙ on)
          (let r : AgreeOn known (record { pins = set a.pins (m.pin c) (m.level a c); q = a.q; nodes = a.nodes }) (record { pins = set b.pins (m.pin c) (m.level b c); q = b.q; nodes = b.nodes }) =
          record {
            pins = λ k is.
                let other : k ≢ m.pin c = λ e. true≢false (sym is ∙ (ap known.pins e ∙ told.no_register c within register)) in
                get_or-set_other a.pins (m.pin c) k (m.level a c) false other ∙ (agree.pins k is ∙ sym (get_or-set_other b.pins (m.pin c) k (m.level b c) false other));
            q = agree.q;
          } in r)

      by_enable : (m.enable a c ≡ true) ⊎ (m.enable a c ≡ false) → AgreeOn known (settle_slot m a (Cell c)) (settle_slot m b (Cell c))
      by_enable (inl on) = driven on (cases_Bool (m.stores c))
      by_enable (inr off) = rw (off, sym (told.enable a b agree c within) ∙ off) agree

  slot_agrees : (a b : Levels) (slot : Slot) → IsPoint a → IsPoint b → InRange m slot → AgreeOn known a b → AgreeOn known (settle_slot m a slot) (settle_slot m b slot)
  slot_agrees a b (Cell c) a_is b_is within agree = cell_agrees a b c a_is b_is within agree
  slot_agrees a b (Node n) a_is b_is within agree = record { pins = agree.pins; q = agree.q }

  settle_agrees : (slots : List Slot) → ((i : ℕ) (slot : Slot) → slice_get slots i ≡ Some slot → InRange m slot) → (a b : Levels) → IsPoint a → IsPoint b → AgreeOn known a b → AgreeOn known (settle m a slots) (settle m b slots)
  settle_agrees [] range a b a_is b_is agree = agree
  settle_agrees (slot ∷ slots) range a b a_is b_is agree =
      settle_agrees slots (λ i s found. range (suc i) s found) (settle_slot m a slot) (settle_slot m b slot) (slot_point m a slot a_is) (slot_point m b slot b_is)
      (slot_agrees a b slot a_is b_is (range 0 slot refl) agree)

  settled_agree : (o o' q q' : List Bool) → IsWide o → IsWide o' → IsWide q → IsWide q' → SameKnown known o o' q q' → AgreeOn known (settled_of m o q) (settled_of m o' q')
  settled_agree o o' q q' o_wide o'_wide q_wide q'_wide same =
      settle_agrees m.slots ordered.has_slots.range (start o q) (start o' q')
      (record { pins = o_wide; q = q_wide; nodes = length-bits 128 0 }) (record { pins = o'_wide; q = q'_wide; nodes = length-bits 128 0 })
      (record { pins = same.0; q = same.1 })

  -- the resting Qs of known cells are the same
  resting_agree : (s s' : List Bool) (a b : Levels) → AgreeOn known a b → ((c : ℕ) → known.q c ≡ true → is_on s c ≡ is_on s' c) → (c : ℕ) → known.q c ≡ true
      → q_at_rest (logic_of m) s a c ≡ q_at_rest (logic_of m) s' b c
  resting_agree s s' a b agree same c is =
      let within : c < m.cells = ltb-true c m.cells (and_parts _ _ (told.registers c is)).0 in
      rw (told.reset a b agree c within, same c is) refl

  low_known : (c : ℕ) → known.q c ≡ true → c < 32
  low_known c is = let within : c < m.cells = ltb-true c m.cells (and_parts _ _ (told.registers c is)).0 in omega (arith, ordered.has_pins.cells, within)

  -- the points at rest have known pins and Qs the same
  rests_agree : (o s o' s' : List Bool) → IsWide o → IsWide s → IsWide o' → IsWide s' → SameKnown known o o' s s' → AgreeOn known (rest_of m o s) (rest_of m o' s')
  rests_agree o s o' s' o_wide s_wide o'_wide s'_wide same =
      let first = settled_agree o o' s s' o_wide o'_wide s_wide s'_wide same in
      let f = q_at_rest (logic_of m) s (settled_of m o s) in
      let f' = q_at_rest (logic_of m) s' (settled_of m o' s') in
      settled_agree o o' (filled f) (filled f') o_wide o'_wide (length-filled f) (length-filled f')
      (same.0, λ c is. is_on-filled f c (low_known c is) ∙ (resting_agree s s' (settled_of m o s) (settled_of m o' s') first same.1 c is ∙ sym (is_on-filled f' c (low_known c is))))

  pub points_agree : (o s o' s' : List Bool) → IsWide o → IsWide s → IsWide o' → IsWide s' → SameKnown known o o' s s' → (at at' : Levels)
      → AtRest (logic_of m) o s at → AtRest (logic_of m) o' s' at' → AgreeOn known at at'
  points_agree o s o' s' o_wide s_wide o'_wide s'_wide same at at' is is' =
      let first = (rests_once m ordered o s o_wide s_wide).only at is in
      let second = (rests_once m ordered o' s' o'_wide s'_wide).only at' is' in
      rw (first, second) (rests_agree o s o' s' o_wide s_wide o'_wide s'_wide same)
