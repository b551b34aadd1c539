-- What is cut if nothing is known of two logics.
use Rattle.std.proofs.Common.{◌≡◌, ◌⊎◌, ℕ, ◌<◌, Bool, true, false, ◌==◌, List, [], ◌∷◌, set, refl, sym, ◌∙◌, subst, inl, inr, arith, get_or-set_other}
use Rattle.fuse_compare.proofs.Common.{cases_eq, cases_lt, eq-eqb, eqb-true, true≢false, get_or_past, bits, is_on, IsPoint, Levels, is_on-zero, length-bits, Lookups, holds, RowMask, AreFreePins, AreKeptQs, DifferWithin, some_holds}

-- 0 has no level
pub no_level : (k : ℕ) → is_on (bits 32 0) k ≡ true → ⊥
no_level k on = elim (cases_lt k 32) [
  | inl within ↦ true≢false (sym on ∙ is_on-zero 32 k within)
  | inr past ↦ true≢false (sym on ∙ get_or_past (bits 32 0) k false (omega (arith, past, length-bits 32 0)))
]

-- a level that is set is one at its own place alone
pub set_on : (xs : List Bool) (j k : ℕ) (v : Bool) → is_on (set xs j v) k ≡ true → (is_on xs k ≡ true) ⊎ ((j == k) ≡ true)
set_on xs j k v on = elim (cases_eq k j) [
  | inl same ↦ inr (eq-eqb j k (sym same))
  | inr other ↦ inl (sym (get_or-set_other xs j k v false other) ∙ on)
]

pub no_free : (a : Lookups) → AreFreePins a (bits 32 0)
no_free a k on = absurd (no_level k on)

pub no_kept : (a : Lookups) → AreKeptQs a (bits 32 0)
no_kept a c on = absurd (no_level c on)

-- one pin, or one cell, more
pub free_more : (a : Lookups) (pins : List Bool) (k : ℕ) → AreFreePins a pins → ((c : ℕ) → c < a.cells → a.pin c ≡ k → (at : Levels) → IsPoint at → a.enable at c ≡ false)
    → AreFreePins a (set pins k true)
free_more a pins k free here j on = elim (set_on pins k j true on) [
  | inl there ↦ free j there
  | inr same ↦ subst (λ n. (c : ℕ) → c < a.cells → a.pin c ≡ n → (at : Levels) → IsPoint at → a.enable at c ≡ false) (eqb-true k j same) here
]

pub kept_more : (a : Lookups) (cells : List Bool) (c : ℕ) → AreKeptQs a cells → c < a.cells → a.stores c ≡ true → ((at : Levels) → IsPoint at → a.reset at c ≡ false)
    → AreKeptQs a (set cells c true)
kept_more a cells c kept within register never d on = elim (set_on cells c d true on) [
  | inl there ↦ kept d there
  | inr same ↦ subst (λ n. (n < a.cells) × (a.stores n ≡ true) × ((at : Levels) → IsPoint at → a.reset at n ≡ false)) (eqb-true c d same) (within, register, never)
]

-- a mask that holds everywhere
pub within_full : (a b : Lookups) (mask : RowMask) (own : List RowMask) → ((at : Levels) → holds mask at ≡ true) → own ≡ mask ∷ [] → DifferWithin a b own
within_full a b mask own always is at point none = absurd (true≢false (sym here ∙ subst (λ masks. some_holds masks at ≡ false) is none))
  where
    here : some_holds (mask ∷ []) at ≡ true
    here = rw (always at) refl
