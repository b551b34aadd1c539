-- The variables, one after another.
use Rattle.std.proofs.Common.{◌≡◌, ◌⊎◌, ℕ, zero, suc, ◌<◌, Bool, true, false, List, [], ◌∷◌, length, drop, set, Some, slice_get, subst, arith, inl, inr}
use Rattle.fuse_compare.proofs.Common.{AreVariables, Varies, VariesAt, Variable, Pin, Q}

same_variable : (x y : Variable) → Some x ≡ Some y → x ≡ y
same_variable x y e = cc

pub pin_low : (vs : List Variable) (i k : ℕ) → AreVariables vs → slice_get vs i ≡ Some (Pin k) → k < 32
pin_low [] i k are found = absurd cc
pin_low (x ∷ vs) zero k are found = (subst (λ y. AreVariables (y ∷ vs)) (same_variable x (Pin k) found) are).0
pin_low (Pin j ∷ vs) (suc i) k are found = pin_low vs i k are.1 found
pin_low (Q c ∷ vs) (suc i) k are found = pin_low vs i k are.1 found

pub q_low : (vs : List Variable) (i c : ℕ) → AreVariables vs → slice_get vs i ≡ Some (Q c) → c < 32
q_low [] i c are found = absurd cc
q_low (x ∷ vs) zero c are found = (subst (λ y. AreVariables (y ∷ vs)) (same_variable x (Q c) found) are).0
q_low (Pin j ∷ vs) (suc i) c are found = q_low vs i c are.1 found
q_low (Q d ∷ vs) (suc i) c are found = q_low vs i c are.1 found

-- with the level of the next one, the others vary
pub pin_varies : (vs : List Variable) (i k : ℕ) (v : Bool) (o s o' s' : List Bool) → slice_get vs i ≡ Some (Pin k)
    → VariesAt (drop i vs) v o s o' s' → Varies (drop (suc i) vs) (set o k v) s o' s'
pin_varies [] i k v o s o' s' found varies = absurd cc
pin_varies (x ∷ vs) zero k v o s o' s' found varies = subst (λ y. VariesAt (y ∷ vs) v o s o' s') (same_variable x (Pin k) found) varies
pin_varies (x ∷ vs) (suc i) k v o s o' s' found varies = pin_varies vs i k v o s o' s' found varies

pub q_varies : (vs : List Variable) (i c : ℕ) (v : Bool) (o s o' s' : List Bool) → slice_get vs i ≡ Some (Q c)
    → VariesAt (drop i vs) v o s o' s' → Varies (drop (suc i) vs) o (set s c v) o' s'
q_varies [] i c v o s o' s' found varies = absurd cc
q_varies (x ∷ vs) zero c v o s o' s' found varies = subst (λ y. VariesAt (y ∷ vs) v o s o' s') (same_variable x (Q c) found) varies
q_varies (x ∷ vs) (suc i) c v o s o' s' found varies = q_varies vs i c v o s o' s' found varies

-- what varies has a level of the first
pub first_level : (vs : List Variable) (i : ℕ) (o s o' s' : List Bool) → i < length vs → Varies (drop i vs) o s o' s'
    → VariesAt (drop i vs) true o s o' s' ⊎ VariesAt (drop i vs) false o s o' s'
first_level [] i o s o' s' within varies = absurd (omega (arith, within))
first_level (Pin k ∷ vs) zero o s o' s' within varies = by_level varies.0 varies.1
  where
    by_level : (v : Bool) → Varies vs (set o k v) s o' s' → Varies vs (set o k true) s o' s' ⊎ Varies vs (set o k false) s o' s'
    by_level true w = inl w
    by_level false w = inr w
first_level (Q c ∷ vs) zero o s o' s' within varies = by_level varies.0 varies.1
  where
    by_level : (v : Bool) → Varies vs o (set s c v) o' s' → Varies vs o (set s c true) o' s' ⊎ Varies vs o (set s c false) o' s'
    by_level true w = inl w
    by_level false w = inr w
first_level (x ∷ vs) (suc i) o s o' s' within varies = first_level vs i o s o' s' (omega (arith, within)) varies
