-- Lists that are made over a range, number by number.
use Rattle.std.proofs.Common.{◌≡◌, ℕ, suc, ◌+◌, ◌-◌, ◌<◌, ◌≤◌, Bool, true, false, if◌then◌else◌, Some, None, List, [], ◌∷◌, ◌++◌, filter, flat_map, map, refl, ap, sym, ◌∙◌, arith, append-nil, map-id}
use Rattle.decompiler.proofs.Common.{find, range_with_len, map-range_with_len_more, flat_map-append}

-- ---- one number more

range_more : (a n : ℕ) → range_with_len a (n + 1) ≡ range_with_len a n ++ (a + n) ∷ []
range_more a n =
    sym (map-id (range_with_len a (n + 1)))
    ∙ (map-range_with_len_more (λ k. k) a n (a + n) refl ∙ ap (λ ks. ks ++ (a + n) ∷ []) (map-id (range_with_len a n)))

-- what a range gives, and what the number after it gives
module _ {A : Type 0} (give : ℕ → List A) where
  pub range_gives : (a n : ℕ) → flat_map give (range_with_len a n) ++ give (a + n) ≡ flat_map give (range_with_len a (n + 1))
  range_gives a n =
      sym (
      ap (λ ks. flat_map give ks) (range_more a n)
      ∙ flat_map-append give (range_with_len a n) ((a + n) ∷ [])
      ∙ ap (λ xs. flat_map give (range_with_len a n) ++ xs) (append-nil (give (a + n))))

  pub more_given : (a n k : ℕ) (before after : List A) → before ≡ flat_map give (range_with_len a n) → after ≡ before ++ give k → k ≡ a + n → after ≡ flat_map give (range_with_len a (n + 1))
  more_given a n k before after has grown is = grown ∙ (rw (has, is) (range_gives a n))

-- ---- what is given is a choice

-- one thing for each that passes, in order
pub given_chosen : {A B : Type 0} (passes : A → Bool) (show : A → B) (xs : List A) → flat_map (λ x. if passes x then show x ∷ [] else []) xs ≡ map show (filter passes xs)
given_chosen passes show [] = refl
given_chosen {A = A} {B = B} passes show (x ∷ xs) = by_test (passes x) refl (given_chosen passes show xs)
  where
    given : List B
    given = flat_map (λ x. if passes x then show x ∷ [] else []) xs

    by_test : (b : Bool) → passes x ≡ b → given ≡ map show (filter passes xs) → (if passes x then show x ∷ [] else []) ++ given ≡ map show (filter passes (x ∷ xs))
    by_test true is later = rw is (ap (λ ys. show x ∷ ys) later)
    by_test false is later = rw is later

-- ---- the first number that passes

module _ (passes : ℕ → Bool) (c n : ℕ) where
  one_less : c < n → n - c ≡ suc (n - (c + 1))
  one_less within = omega arith

  pub next_left : c < n → passes c ≡ false → find passes (range_with_len c (n - c)) ≡ find passes (range_with_len (c + 1) (n - (c + 1)))
  next_left within fails = rw (one_less within) (rw fails refl)

  pub found_here : c < n → passes c ≡ true → find passes (range_with_len c (n - c)) ≡ Some c
  found_here within holds = rw (one_less within) (rw holds refl)

  pub none_left : n ≤ c → find passes (range_with_len c (n - c)) ≡ None
  none_left past = rw (none past) refl
    where
      none : n ≤ c → n - c ≡ 0
      none past = omega arith
