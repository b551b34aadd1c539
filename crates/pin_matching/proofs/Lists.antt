-- Lists that have each number once, and which of two is the longer one.
use Rattle.std.proofs.Common.{◌≡◌, ℕ, suc, ◌<◌, ◌≤◌, true, false, ◌||◌, ◌&&◌, not, eqb, List, [], ◌∷◌, ◌++◌, length, get_or, refl, ap, sym, ◌∙◌, subst, arith, inl, inr, eqb-true, ne_eqb}
use Rattle.pin_matching.proofs.Common.{IsDistinct, filter, unique_keys, nat_eq_equiv, true≢false, false_from_ne_true, cases_Bool, cases_lt, eq-eqb, or_left, or_right, get_or_default, length_push, list_any_at, apart_from_distinct, IsDistinct-from_apart, IsDistinct-tail, IsDistinct-cons, length-le_from_is_member, is_member-filter, has, eqb_same, has_none, has_push, once_push}
use Rattle.std.proofs.lemmas.List.Elements.{recursion_from_All}

pub has_at : (xs : List ℕ) (i : ℕ) → i < length xs → has xs (get_or xs i 0) ≡ true
has_at xs i low = list_any_at (eqb (get_or xs i 0)) xs i 0 low (eqb_same (get_or xs i 0))

-- equal numbers of a list that has each once are at one place
pub same_place : (xs : List ℕ) (i j : ℕ) → IsDistinct eqb xs → i < length xs → j < length xs → get_or xs i 0 ≡ get_or xs j 0 → i ≡ j
same_place xs i j once i_in j_in same =
    elim (cases_lt i j) [
      | inl less ↦ absurd (apart i j less j_in same)
      | inr more ↦ elim (cases_lt j i) [ inl less ↦ absurd (apart j i less i_in (sym same)) | inr le ↦ omega (arith, more, le) ]
    ]
  where
    apart : (a b : ℕ) → a < b → b < length xs → get_or xs a 0 ≡ get_or xs b 0 → ⊥
    apart a b less b_in eq = true≢false (sym (eq-eqb (get_or xs a 0) (get_or xs b 0) eq) ∙ apart_from_distinct eqb xs a b 0 once less b_in)

pub once_by_places : (xs : List ℕ) → ((i j : ℕ) → i < length xs → j < length xs → get_or xs i 0 ≡ get_or xs j 0 → i ≡ j) → IsDistinct eqb xs
once_by_places xs same = IsDistinct-from_apart eqb xs (λ i j d less j_in.
    let i_in : i < length xs = omega (arith, less, j_in) in
    rw (get_or_default xs i d 0 i_in, get_or_default xs j d 0 j_in) (ne_eqb (get_or xs i 0) (get_or xs j 0) (λ eq. let e = same i j i_in j_in eq in absurd (omega (arith, e, less)))))

-- ---- which list is the longer one

-- numbers, each once, that another list has are at most as many
pub fewer : (xs ys : List ℕ) → IsDistinct eqb xs → ((v : ℕ) → has xs v ≡ true → has ys v ≡ true) → length xs ≤ length ys
fewer xs ys once inside = length-le_from_is_member nat_eq_equiv xs ys once inside

-- and if they are as many, they are all that it has
pub all_of : (xs ys : List ℕ) → IsDistinct eqb xs → ((v : ℕ) → has xs v ≡ true → has ys v ≡ true) → length ys ≤ length xs → (v : ℕ) → has ys v ≡ true → has xs v ≡ true
all_of xs ys once inside long v found =
    elim (cases_Bool (has xs v)) [
      | inl there ↦ there
      | inr out ↦ (
          let more = fewer (xs ++ v ∷ []) ys (once_push xs v once out) (λ x in_more. elim (has_push xs v x in_more) [ inl in_xs ↦ inside x in_xs | inr same ↦ subst (λ y. has ys y ≡ true) (sym same) found ]) in
          absurd (omega (arith, more, long, length_push xs v)))
    ]

-- ---- each number once

pub unique_has : (xs : List ℕ) (q : ℕ) → has (unique_keys eqb xs) q ≡ has xs q
unique_has [] q = refl
unique_has (x ∷ xs) q =
    elim (cases_Bool (has xs x)) [
      | inl there ↦ rw there (unique_has xs q ∙ again there)
      | inr out ↦ rw out (ap (λ b. eqb q x || b) (unique_has xs q))
    ]
  where
    again : has xs x ≡ true → has xs q ≡ (eqb q x || has xs q)
    again there =
        elim (cases_Bool (eqb q x)) [
          | inl same ↦ rw same (subst (λ y. has xs y ≡ true) (sym (eqb-true q x same)) there)
          | inr other ↦ rw other refl
        ]

pub once_cons : (x : ℕ) (xs : List ℕ) → IsDistinct eqb xs → has xs x ≡ false → IsDistinct eqb (x ∷ xs)
once_cons x xs once out = IsDistinct-cons eqb x xs (recursion_from_All (λ y. eqb x y ≡ false) xs apart) once
  where
    apart : (k : ℕ) (d : ℕ) → k < length xs → eqb x (get_or xs k d) ≡ false
    apart k d low = false_from_ne_true (eqb x (get_or xs k d)) (λ same. true≢false (sym (list_any_at (eqb x) xs k d low same) ∙ out))

pub head_out : (x : ℕ) (xs : List ℕ) → IsDistinct eqb (x ∷ xs) → has xs x ≡ false
head_out x xs once = has_none xs x (λ k low same. let e = same_place (x ∷ xs) 0 (suc k) once (omega arith) (omega (arith, low)) (sym same) in absurd (omega (arith, e)))

pub unique_once : (xs : List ℕ) → IsDistinct eqb (unique_keys eqb xs)
unfolding IsDistinct
unique_once [] = tt
unique_once (x ∷ xs) =
    elim (cases_Bool (has xs x)) [
      | inl there ↦ rw there (unique_once xs)
      | inr out ↦ rw out (once_cons x (unique_keys eqb xs) (unique_once xs) (unique_has xs x ∙ out))
    ]

-- ---- a list without a number

-- the numbers except for one
abbrev pub without : ℕ → List ℕ → List ℕ
without k xs = filter (λ s. not (eqb s k)) xs

pub has_without : (xs : List ℕ) (k s : ℕ) → has (without k xs) s ≡ (has xs s && not (eqb s k))
has_without xs k s = is_member-filter nat_eq_equiv (λ x. not (eqb x k)) s (λ x same. ap (λ y. not (eqb y k)) (eqb-true s x same)) xs

pub once_without : (xs : List ℕ) (k : ℕ) → IsDistinct eqb xs → IsDistinct eqb (without k xs)
unfolding IsDistinct
once_without [] k once = tt
once_without (x ∷ xs) k once =
    elim (cases_Bool (eqb x k)) [
      | inl same ↦ rw same (once_without xs k (IsDistinct-tail eqb x xs once))
      | inr other ↦ rw other (once_cons x (without k xs) (once_without xs k (IsDistinct-tail eqb x xs once)) (rw (has_without xs k x, head_out x xs once) refl))
    ]

-- at most one is left out
pub length_without : (xs : List ℕ) (k : ℕ) → IsDistinct eqb xs → length xs ≤ suc (length (without k xs))
length_without xs k once = fewer xs (k ∷ without k xs) once (λ s there.
    elim (cases_Bool (eqb s k)) [
      | inl same ↦ or_left (eqb s k) (has (without k xs) s) same
      | inr other ↦ or_right (eqb s k) (has (without k xs) s) (rw (has_without xs k s, there, other) refl)
    ])
