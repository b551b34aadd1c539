-- What holds of each element of a list, and what an empty list or a test of all says of each.
use Rattle.std.proofs.Common.{◌≡◌, ℕ, zero, suc, Bool, true, false, cond, Some, List, [], ◌∷◌, ◌++◌, map, inl, inr, refl, subst, filter, slice_get}
use Rattle.design.proofs.Common.{AllByRecursion, list_any, or_cases, or_parts, same_Some}

module _ {A : Type 0} (P : A → Type 0) where
  pub each_always : ((x : A) → P x) → (xs : List A) → AllByRecursion P xs
  each_always holds [] = tt
  each_always holds (x ∷ xs) = (holds x, each_always holds xs)

  pub each_append : (xs ys : List A) → AllByRecursion P xs → AllByRecursion P ys → AllByRecursion P (xs ++ ys)
  each_append [] ys here there = there
  each_append (x ∷ xs) ys here there = (here.0, each_append xs ys here.1 there)

  pub each_first : (xs ys : List A) → AllByRecursion P (xs ++ ys) → AllByRecursion P xs
  each_first [] ys all = tt
  each_first (x ∷ xs) ys all = (all.0, each_first xs ys all.1)

  pub each_last : (xs ys : List A) → AllByRecursion P (xs ++ ys) → AllByRecursion P ys
  each_last [] ys all = all
  each_last (x ∷ xs) ys all = each_last xs ys all.1

  pub each_filter : (test : A → Bool) (xs : List A) → AllByRecursion P xs → AllByRecursion P (filter test xs)
  each_filter test [] all = tt
  each_filter test (x ∷ xs) all = by (test x) (each_filter test xs all.1)
    where
      by : (b : Bool) → AllByRecursion P (filter test xs) → AllByRecursion P (cond b (x ∷ filter test xs) (filter test xs))
      by true rest = (all.0, rest)
      by false rest = rest

  pub each_map : {B : Type 0} (f : B → A) (ys : List B) → AllByRecursion (λ y. P (f y)) ys → AllByRecursion P (map f ys)
  each_map f [] all = tt
  each_map f (y ∷ ys) all = (all.0, each_map f ys all.1)

  pub each_at : (xs : List A) (k : ℕ) (x : A) → AllByRecursion P xs → slice_get xs k ≡ Some x → P x
  each_at [] k x all is = absurd cc
  each_at (y ∷ xs) zero x all is = subst P (same_Some y x is) all.0
  each_at (y ∷ xs) (suc k) x all is = each_at xs k x all.1 is

  -- one of several that passes
  pub some_of : (test : A → Bool) (xs : List A) → AllByRecursion P xs → list_any test xs ≡ true → (x : A) × P x × (test x ≡ true)
  some_of test [] all e = absurd cc
  some_of test (x ∷ xs) all e = elim (or_cases (test x) (list_any test xs) e) [ inl is ↦ (x, all.0, is) | inr more ↦ some_of test xs all.1 more ]

pub each_weaker : {A : Type 0} (P Q : A → Type 0) → ((x : A) → P x → Q x) → (xs : List A) → AllByRecursion P xs → AllByRecursion Q xs
each_weaker P Q so [] all = tt
each_weaker P Q so (x ∷ xs) all = (so x all.0, each_weaker P Q so xs all.1)

module _ {A : Type 0} (test : A → Bool) where
  abbrev pub Misses : A → Type 0
  Misses x = test x ≡ false

  -- none passes, given in three ways
  pub none_any : (xs : List A) → AllByRecursion Misses xs → list_any test xs ≡ false
  none_any [] all = refl
  none_any (x ∷ xs) all = rw all.0 (none_any xs all.1)

  pub any_none : (xs : List A) → list_any test xs ≡ false → AllByRecursion Misses xs
  any_none [] e = tt
  any_none (x ∷ xs) e = let parts = or_parts (test x) (list_any test xs) e in (parts.0, any_none xs parts.1)

  pub none_filtered : (xs : List A) → AllByRecursion Misses xs → filter test xs ≡ []
  none_filtered [] all = refl
  none_filtered (x ∷ xs) all = rw all.0 (none_filtered xs all.1)

  pub filtered_none : (xs : List A) → filter test xs ≡ [] → AllByRecursion Misses xs
  filtered_none [] e = tt
  filtered_none (x ∷ xs) e = by (test x) refl (λ g. filtered_none xs g) e
    where
      by : (b : Bool) → test x ≡ b → (filter test xs ≡ [] → AllByRecursion Misses xs) → cond b (x ∷ filter test xs) (filter test xs) ≡ [] → (test x ≡ false) × AllByRecursion Misses xs
      by true is more e = absurd cc
      by false is more e = (is, more e)
