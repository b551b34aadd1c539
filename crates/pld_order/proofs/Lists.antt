-- Lists of vertices: what they have, each once, and how long they can be.
use Rattle.std.proofs.Common.{◌≡◌, ◌⊎◌, ℕ, zero, suc, ◌<◌, ◌≤◌, true, false, eqb, List, [], ◌∷◌, ◌++◌, length, drop, get_or, refl, sym, ◌∙◌, subst, arith, inl, inr, eqb-true, ne_eqb}
use Rattle.pld_order.proofs.Common.{IsDistinct, true≢false, cases_eq, eq-eqb, or_cases, or_left, or_right, IsDistinct-push, IsDistinct-tail, has}
use Rattle.std.specs.Cmp.{nat_eq_equiv}
use Rattle.std.proofs.lemmas.Map.Steps.{length-le_from_distinct_below}

-- a number is equal to itself, and equality has no side
pub eqb_same : (n : ℕ) → eqb n n ≡ true
eqb_same n = eq-eqb n n refl

pub eqb_flips : (m n : ℕ) → eqb m n ≡ eqb n m
eqb_flips m n = elim (cases_eq m n) [ inl same ↦ eq-eqb m n same ∙ sym (eq-eqb n m (sym same)) | inr apart ↦ ne_eqb m n apart ∙ sym (ne_eqb n m (λ e. apart (sym e))) ]

-- what a longer list has
pub has_push : (xs : List ℕ) (v x : ℕ) → has (xs ++ v ∷ []) x ≡ true → (has xs x ≡ true) ⊎ (x ≡ v)
has_push [] v x found = elim (or_cases (eqb x v) false found) [ inl same ↦ inr (eqb-true x v same) | inr never ↦ absurd (true≢false (sym never)) ]
has_push (y ∷ xs) v x found =
    elim (or_cases (eqb x y) (has (xs ++ v ∷ []) x) found) [
      | inl same ↦ inl (or_left (eqb x y) (has xs x) same)
      | inr later ↦ elim (has_push xs v x later) [ inl in_xs ↦ inl (or_right (eqb x y) (has xs x) in_xs) | inr same ↦ inr same ]
    ]

pub has_none : (xs : List ℕ) (v : ℕ) → ((k : ℕ) → k < length xs → get_or xs k 0 ≡ v → ⊥) → has xs v ≡ false
has_none [] v none = refl
has_none (x ∷ xs) v none = rw (ne_eqb v x (λ e. none 0 (omega arith) (sym e)), has_none xs v (λ k low. none (suc k) (omega arith))) refl

pub has_drop : (xs : List ℕ) (i v : ℕ) → has (drop i xs) v ≡ true → has xs v ≡ true
has_drop xs zero v found = found
has_drop [] (suc i) v found = found
has_drop (x ∷ xs) (suc i) v found = or_right (eqb v x) (has xs v) (has_drop xs i v found)

-- the place of what a list has
pub place_of : (xs : List ℕ) (v : ℕ) → has xs v ≡ true → (k : ℕ) × (k < length xs) × (get_or xs k 0 ≡ v)
place_of [] v found = absurd (true≢false (sym found))
place_of (x ∷ xs) v found =
    elim (or_cases (eqb v x) (has xs v) found) [
      | inl same ↦ (0, omega arith, sym (eqb-true v x same))
      | inr later ↦ let there = place_of xs v later in (suc there.0, omega (arith, there.1), there.2)
    ]

-- vertices below a number, each once, are at most as many
pub few : (xs : List ℕ) (count : ℕ) → IsDistinct eqb xs → ((v : ℕ) → has xs v ≡ true → v < count) → length xs ≤ count
few xs count once inside = length-le_from_distinct_below xs count once inside

-- one vertex more
pub inside_push : (xs : List ℕ) (count v : ℕ) → ((x : ℕ) → has xs x ≡ true → x < count) → v < count → (x : ℕ) → has (xs ++ v ∷ []) x ≡ true → x < count
inside_push xs count v inside low x found = elim (has_push xs v x found) [ inl in_xs ↦ inside x in_xs | inr same ↦ subst (λ k. k < count) (sym same) low ]

pub once_push : (xs : List ℕ) (v : ℕ) → IsDistinct eqb xs → has xs v ≡ false → IsDistinct eqb (xs ++ v ∷ [])
once_push xs v once new = IsDistinct-push nat_eq_equiv xs v once new

-- vertices that are once in a list are once in a later part of it
pub once_drop : (xs : List ℕ) (i : ℕ) → IsDistinct eqb xs → IsDistinct eqb (drop i xs)
once_drop xs zero once = once
once_drop [] (suc i) once = once
once_drop (x ∷ xs) (suc i) once = once_drop xs i (IsDistinct-tail eqb x xs once)
