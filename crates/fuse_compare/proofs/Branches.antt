-- The next variable of a list has its level, and what is decided then.
use Rattle.std.proofs.Common.{◌≡◌, ◌⊎◌, ℕ, zero, suc, ◌<◌, Bool, true, false, not, ◌||◌, List, [], ◌∷◌, drop, set, Some, slice_get, refl, ap, sym, subst, inl, inr}
use Rattle.fuse_compare.proofs.Common.{cases_Bool, is_on, same_level, Lookups, IsWide, HoldsWith, RowMask, AreFreePins, AreKeptQs, AreOnce, IsDecided, Varies, VariesAt, has_q, Variable, Pin, Q}
use Rattle.fuse_compare.proofs.Decided.{kept_decided, pin_decided, pin_passed, q_passed, zero_decided}

-- ---- the list from one variable on

same_variable : (x y : Variable) → Some x ≡ Some y → x ≡ y
same_variable x y e = cc

pub drop_at : (vs : List Variable) (i : ℕ) (x : Variable) → slice_get vs i ≡ Some x → drop i vs ≡ x ∷ drop (suc i) vs
drop_at [] i x found = absurd cc
drop_at (y ∷ vs) zero x found = ap (λ z. z ∷ vs) (same_variable y x found)
drop_at (y ∷ vs) (suc i) x found = drop_at vs i x found

once_drop : (vs : List Variable) (i : ℕ) → AreOnce vs → AreOnce (drop i vs)
once_drop vs zero once = once
once_drop [] (suc i) once = once
once_drop (Pin k ∷ vs) (suc i) once = once_drop vs i once.1
once_drop (Q c ∷ vs) (suc i) once = once_drop vs i once.1

once_at : (vs : List Variable) (i : ℕ) (x : Variable) → AreOnce vs → slice_get vs i ≡ Some x → AreOnce (x ∷ drop (suc i) vs)
once_at vs i x once found = subst AreOnce (drop_at vs i x found) (once_drop vs i once)

-- with the level of the next one, the states are those that vary the others
pub pin_state : (vs : List Variable) (i k : ℕ) (v : Bool) (o s o' s' : List Bool) → slice_get vs i ≡ Some (Pin k) → Varies (drop (suc i) vs) (set o k v) s o' s' → VariesAt (drop i vs) v o s o' s'
pin_state vs i k v o s o' s' found varies = subst (λ ws. VariesAt ws v o s o' s') (sym (drop_at vs i (Pin k) found)) varies

pub q_state : (vs : List Variable) (i c : ℕ) (v : Bool) (o s o' s' : List Bool) → slice_get vs i ≡ Some (Q c) → Varies (drop (suc i) vs) o (set s c v) o' s' → VariesAt (drop i vs) v o s o' s'
q_state vs i c v o s o' s' found varies = subst (λ ws. VariesAt ws v o s o' s') (sym (drop_at vs i (Q c) found)) varies

pub state_varies : (vs : List Variable) (v : Bool) (o s o' s' : List Bool) → VariesAt vs v o s o' s' → Varies vs o s o' s'
state_varies [] v o s o' s' at = absurd at
state_varies (Pin k ∷ vs) v o s o' s' at = (v, at)
state_varies (Q c ∷ vs) v o s o' s' at = (v, at)

-- ---- what is decided then

module _ (a : Lookups) (vs : List Variable) (i : ℕ) (once : AreOnce vs) (o s : List Bool) (o_wide : IsWide o) (s_wide : IsWide s) (decided more : RowMask) (on : Bool)
    (is : IsDecided a (drop i vs) o s decided) where
  pub pin_branch : (k : ℕ) → k < 32 → slice_get vs i ≡ Some (Pin k) → (free : List Bool) → AreFreePins a free
      → (is_on free k ≡ true → HoldsWith decided more (λ at. same_level on (is_on at.pins k))) → (is_on free k ≡ false → more ≡ decided)
      → IsDecided a (drop (suc i) vs) (set o k on) s more
  pin_branch k low found free are_free if_free if_driven = by_pin (cases_Bool (is_on free k))
    where
      here : IsDecided a (Pin k ∷ drop (suc i) vs) o s decided
      here = subst (λ ws. IsDecided a ws o s decided) (drop_at vs i (Pin k) found) is

      by_pin : (is_on free k ≡ true) ⊎ (is_on free k ≡ false) → IsDecided a (drop (suc i) vs) (set o k on) s more
      by_pin (inl yes_free) = pin_decided a o s decided more on k (drop (suc i) vs) low o_wide (once_at vs i (Pin k) once found).0 free are_free yes_free (if_free yes_free) here
      by_pin (inr driven) = subst (IsDecided a (drop (suc i) vs) (set o k on) s) (sym (if_driven driven)) (pin_passed a o s decided more on k (drop (suc i) vs) here)

  pub q_branch : (c : ℕ) → c < 32 → slice_get vs i ≡ Some (Q c) → (kept : List Bool) → AreKeptQs a kept
      → ((not on || is_on kept c) ≡ true → HoldsWith decided more (λ at. same_level on (is_on at.q c))) → ((not on || is_on kept c) ≡ false → more ≡ decided)
      → IsDecided a (drop (suc i) vs) o (set s c on) more
  q_branch c low found kept are_kept if_rests if_hidden = by_level on refl
    where
      here : IsDecided a (Q c ∷ drop (suc i) vs) o s decided
      here = subst (λ ws. IsDecided a ws o s decided) (drop_at vs i (Q c) found) is

      last : has_q (drop (suc i) vs) c ≡ false
      last = (once_at vs i (Q c) once found).0

      by_kept : on ≡ true → (is_on kept c ≡ true) ⊎ (is_on kept c ≡ false) → IsDecided a (drop (suc i) vs) o (set s c on) more
      by_kept is_one (inl yes_kept) = kept_decided a o s decided more on c (drop (suc i) vs) low s_wide last kept are_kept yes_kept (if_rests (rw (is_one, yes_kept) refl)) here
      by_kept is_one (inr not_kept) = subst (IsDecided a (drop (suc i) vs) o (set s c on)) (sym (if_hidden (rw (is_one, not_kept) refl))) (q_passed a o s decided more on c (drop (suc i) vs) here)

      by_level : (v : Bool) → on ≡ v → IsDecided a (drop (suc i) vs) o (set s c on) more
      by_level false is_zero = zero_decided a o s decided more on c (drop (suc i) vs) low s_wide last is_zero (if_rests (rw is_zero refl)) here
      by_level true is_one = by_kept is_one (cases_Bool (is_on kept c))
