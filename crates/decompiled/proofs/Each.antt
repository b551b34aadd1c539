-- What holds of each element of a list, of lists that are made of others.
use Rattle.std.proofs.Common.{◌≡◌, ℕ, zero, suc, ◌+◌, ◌<◌, Bool, true, false, Some, None, List, [], ◌∷◌, ◌++◌, length, filter, flat_map, map, get_or, refl, arith}
use Rattle.decompiled.proofs.Common.{or_right, AllByRecursion, find, list_any, range_with_len}

module _ {A : Type 0} (P : A → Type 0) where
  pub each_at : (xs : List A) → ((i : ℕ) (d : A) → i < length xs → P (get_or xs i d)) → AllByRecursion P xs
  each_at [] holds = tt
  each_at (x ∷ xs) holds = (holds 0 x (omega arith), each_at xs (λ i d within. holds (suc i) d (omega (arith, within))))

  pub each_append : (xs ys : List A) → AllByRecursion P xs → AllByRecursion P ys → AllByRecursion P (xs ++ ys)
  each_append [] ys here there = there
  each_append (x ∷ xs) ys here there = (here.0, each_append xs ys here.1 there)

  pub each_filter : (passes : A → Bool) (xs : List A) → AllByRecursion P xs → AllByRecursion P (filter passes xs)
  each_filter passes [] all = tt
  each_filter passes (x ∷ xs) all = by_test (passes x) refl (each_filter passes xs all.1)
    where
      by_test : (b : Bool) → passes x ≡ b → AllByRecursion P (filter passes xs) → AllByRecursion P (filter passes (x ∷ xs))
      by_test true is later = rw is (all.0, later)
      by_test false is later = rw is later

  module _ {B : Type 0} where
    pub each_map : (f : B → A) (xs : List B) → AllByRecursion (λ x. P (f x)) xs → AllByRecursion P (map f xs)
    each_map f [] all = tt
    each_map f (x ∷ xs) all = (all.0, each_map f xs all.1)

    pub each_flat_map : (f : B → List A) (xs : List B) → AllByRecursion (λ x. AllByRecursion P (f x)) xs → AllByRecursion P (flat_map f xs)
    each_flat_map f [] all = tt
    each_flat_map f (x ∷ xs) all = each_append (f x) (flat_map f xs) all.0 (each_flat_map f xs all.1)

pub each_weaker : {A : Type 0} (P Q : A → Type 0) → ((x : A) → P x → Q x) → (xs : List A) → AllByRecursion P xs → AllByRecursion Q xs
each_weaker P Q so [] all = tt
each_weaker P Q so (x ∷ xs) all = (so x all.0, each_weaker P Q so xs all.1)

-- what holds of each element of which every test that passes it passes some element
pub each_member : {A : Type 0} (P : A → Type 0) (xs : List A) → ((x : A) → ((test : A → Bool) → test x ≡ true → list_any test xs ≡ true) → P x) → AllByRecursion P xs
each_member P [] holds = tt
each_member {A = A} P (x ∷ xs) holds =
    (holds x (λ test passes. rw passes refl), each_member P xs (λ y member. holds y (λ test passes. or_right (test x) (list_any test xs) (member test passes))))

pub each_always : {A : Type 0} (P : A → Type 0) → ((x : A) → P x) → (xs : List A) → AllByRecursion P xs
each_always P holds [] = tt
each_always P holds (x ∷ xs) = (holds x, each_always P holds xs)

pub each_in_range : (P : ℕ → Type 0) (a n : ℕ) → ((k : ℕ) → k < a + n → P k) → AllByRecursion P (range_with_len a n)
each_in_range P a zero holds = tt
each_in_range P a (suc n) holds = (holds a (omega arith), each_in_range P (a + 1) n (λ k within. holds k (omega (arith, within))))

-- what is found in a range is below its end
pub found_below : (passes : ℕ → Bool) (a n c : ℕ) → find passes (range_with_len a n) ≡ Some c → c < a + n
found_below passes a zero c found = absurd (none_some found)
  where
    none_some : None ≡ Some c → ⊥
    none_some e = cc
found_below passes a (suc n) c found = by_test (passes a) refl (λ later. found_below passes (a + 1) n c later)
  where
    same : Some a ≡ Some c → a ≡ c
    same e = cc

    by_test : (b : Bool) → passes a ≡ b → (find passes (range_with_len (a + 1) n) ≡ Some c → c < a + 1 + n) → c < a + suc n
    by_test true is later = let here : a ≡ c = same (rw is at found) in omega (arith, here)
    by_test false is later = let there : c < a + 1 + n = later (rw is at found) in omega (arith, there)
