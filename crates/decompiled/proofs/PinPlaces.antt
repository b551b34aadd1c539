-- Places in a list of pins, and pins that are taken out of a range.
use Rattle.std.proofs.Common.{◌≡◌, ℕ, zero, suc, ◌+◌, ◌<◌, ◌≤◌, inl, inr, Bool, true, false, if◌then◌else◌, Option, Some, None, List, [], ◌∷◌, length, filter, slice_get, refl, sym, ap, ◌∙◌, arith, eqb-true, eq-eqb, ◌==◌, ◌||◌}
use Rattle.decompiled.proofs.Common.{list_any, range_with_len, cases_lt, or_right, true≢false, place_of}

none_some : {A : Type 0} (x : A) → ◌≡◌ {A = Option A} None (Some x) → ⊥
none_some x e = cc

pub same_some : {A : Type 0} (x y : A) → ◌≡◌ {A = Option A} (Some x) (Some y) → x ≡ y
same_some x y e = cc

-- ---- places

-- a pin whose place is in the list is there
pub place_within : (ps : List ℕ) (pin : ℕ) → place_of ps pin < length ps → slice_get ps (place_of ps pin) ≡ Some pin
place_within [] pin within = absurd (omega arith)
place_within (p ∷ ps) pin within = by_test (p == pin) refl (λ less. place_within ps pin less)
  where
    by_test : (b : Bool) → (p == pin) ≡ b → (place_of ps pin < length ps → slice_get ps (place_of ps pin) ≡ Some pin) → slice_get (p ∷ ps) (place_of (p ∷ ps) pin) ≡ Some pin
    by_test true is later = rw is (ap Some (eqb-true p pin is))
    by_test false is later = let less : suc (place_of ps pin) < suc (length ps) = rw is at within in rw is (later (omega (arith, less)))

-- the place of a pin that is in the list
pub place_low : (ps : List ℕ) (pin : ℕ) → list_any (λ p. p == pin) ps ≡ true → place_of ps pin < length ps
place_low [] pin some = absurd (true≢false (sym some))
place_low (p ∷ ps) pin some = by_test (p == pin) refl (λ later. place_low ps pin later)
  where
    by_test : (b : Bool) → (p == pin) ≡ b → (list_any (λ q. q == pin) ps ≡ true → place_of ps pin < length ps) → place_of (p ∷ ps) pin < length (p ∷ ps)
    by_test true is later = rw is (omega arith)
    by_test false is later = rw is (let less : place_of ps pin < length ps = later (rw is at some) in omega (arith, less))

pub place_there : (ps : List ℕ) (pin : ℕ) → list_any (λ p. p == pin) ps ≡ true → slice_get ps (place_of ps pin) ≡ Some pin
place_there ps pin some = place_within ps pin (place_low ps pin some)

pub some_there : (ps : List ℕ) (k pin : ℕ) → slice_get ps k ≡ Some pin → list_any (λ p. p == pin) ps ≡ true
some_there [] k pin there = absurd (none_some pin there)
some_there (p ∷ ps) zero pin there = rw (eq-eqb p pin (same_some p pin there)) refl
some_there (p ∷ ps) (suc k) pin there = or_right (p == pin) (list_any (λ q. q == pin) ps) (some_there ps k pin there)

-- ---- pins of a range that pass a test

module _ (test : ℕ → Bool) where
  -- one that passes is there
  pub taken : (a n pin : ℕ) → a ≤ pin → pin < a + n → test pin ≡ true → list_any (λ p. p == pin) (filter test (range_with_len a n)) ≡ true
  taken a zero pin low high holds = absurd (omega arith)
  taken a (suc n) pin low high holds = elim (cases_lt a pin) [
    | inl before ↦ behind (test a) (taken (a + 1) n pin (omega arith) (omega arith) holds)
    | inr past ↦
        let same : a ≡ pin = omega arith in
        rw (ap test same ∙ holds) (rw (eq-eqb a pin same) refl)
  ]
    where
      or_true : (x y : Bool) → y ≡ true → (x || y) ≡ true
      or_true true y e = refl
      or_true false y e = e

      behind : (b : Bool) → list_any (λ p. p == pin) (filter test (range_with_len (a + 1) n)) ≡ true
          → list_any (λ p. p == pin) (if b then a ∷ filter test (range_with_len (a + 1) n) else filter test (range_with_len (a + 1) n)) ≡ true
      behind true there = or_true (a == pin) (list_any (λ p. p == pin) (filter test (range_with_len (a + 1) n))) there
      behind false there = there

  -- one that is there passes, and is of the range
  pub record IsTaken (a n pin : ℕ) : Type 0 where
    pub low : a ≤ pin
    pub high : pin < a + n
    pub passes : test pin ≡ true

  pub was_taken : (a n i pin : ℕ) → slice_get (filter test (range_with_len a n)) i ≡ Some pin → IsTaken a n pin
  was_taken a zero i pin there = absurd (none_some pin there)
  was_taken a (suc n) i pin there = by_test (test a) refl i there (λ j later. was_taken (a + 1) n j pin later)
    where
      later_taken : IsTaken (a + 1) n pin → IsTaken a (suc n) pin
      later_taken t = record { low = omega (arith, t.low); high = omega (arith, t.high); passes = t.passes }

      at_first : (i : ℕ) → test a ≡ true → slice_get (a ∷ filter test (range_with_len (a + 1) n)) i ≡ Some pin
          → ((j : ℕ) → slice_get (filter test (range_with_len (a + 1) n)) j ≡ Some pin → IsTaken (a + 1) n pin) → IsTaken a (suc n) pin
      at_first zero is there later =
          let same : a ≡ pin = same_some a pin there in
          record { low = omega (arith, same); high = omega (arith, same); passes = ap test (sym same) ∙ is }
      at_first (suc i) is there later = later_taken (later i there)

      by_test : (b : Bool) → test a ≡ b → (i : ℕ) → slice_get (filter test (range_with_len a (suc n))) i ≡ Some pin
          → ((j : ℕ) → slice_get (filter test (range_with_len (a + 1) n)) j ≡ Some pin → IsTaken (a + 1) n pin) → IsTaken a (suc n) pin
      by_test true is i there later = at_first i is (rw is at there) later
      by_test false is i there later = later_taken (later i (rw is at there))

  -- each pin is once
  pub taken_once : (a n i j pin : ℕ) → slice_get (filter test (range_with_len a n)) i ≡ Some pin → slice_get (filter test (range_with_len a n)) j ≡ Some pin → i ≡ j
  taken_once a zero i j pin there again = absurd (none_some pin there)
  taken_once a (suc n) i j pin there again = by_test (test a) refl i j there again (λ k l here other. taken_once (a + 1) n k l pin here other)
    where
      first_later : (k : ℕ) → a ≡ pin → slice_get (filter test (range_with_len (a + 1) n)) k ≡ Some pin → ⊥
      first_later k same later = let t = was_taken (a + 1) n k pin later in omega (arith, t.low, same)

      IsOnce : Type 0
      IsOnce = (k l : ℕ) → slice_get (filter test (range_with_len (a + 1) n)) k ≡ Some pin → slice_get (filter test (range_with_len (a + 1) n)) l ≡ Some pin → k ≡ l

      with_first : (i j : ℕ) → slice_get (a ∷ filter test (range_with_len (a + 1) n)) i ≡ Some pin → slice_get (a ∷ filter test (range_with_len (a + 1) n)) j ≡ Some pin → IsOnce → i ≡ j
      with_first zero zero there again once = refl
      with_first zero (suc j) there again once = absurd (first_later j (same_some a pin there) again)
      with_first (suc i) zero there again once = absurd (first_later i (same_some a pin again) there)
      with_first (suc i) (suc j) there again once = ap suc (once i j there again)

      by_test : (b : Bool) → test a ≡ b → (i j : ℕ) → slice_get (filter test (range_with_len a (suc n))) i ≡ Some pin → slice_get (filter test (range_with_len a (suc n))) j ≡ Some pin → IsOnce → i ≡ j
      by_test true is i j there again once = with_first i j (rw is at there) (rw is at again) once
      by_test false is i j there again once = once i j (rw is at there) (rw is at again)
