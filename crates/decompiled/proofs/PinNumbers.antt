-- The numbers of pins in words: below 32, each by computing.
use Rattle.std.proofs.Common.{◌≡◌, ℕ, zero, suc, ◌<◌, inl, inr, Bool, true, false, not, List, [], ◌∷◌, length, refl, subst, arith, eqb-true, ◌==◌, ◌&&◌, nat_lt}
use Rattle.decompiled.proofs.Common.{list_all, decimal, digits, is_ascii_digit, is_ascii_alphanumeric, and_parts, not-true, cases_lt, is_name_later, is_keyword, is_good_number, number_value, name_text}

-- a digit and further ones
abbrev pub is_number_word : List ℕ → Bool
is_number_word [] = false
is_number_word (b ∷ bs) = is_ascii_digit b && list_all is_ascii_alphanumeric bs

-- a number can be in a name, and as itself
abbrev is_pin_word : ℕ → Bool
is_pin_word n =
    (list_all is_name_later (decimal n) && (not (is_keyword (name_text n)) && not (nat_lt 31 (length (name_text n)))))
    && (is_number_word (decimal n) && (is_good_number 10 (decimal n) && (number_value 10 (decimal n) == n)))

-- each number below this one passes the test
abbrev all_below : (ℕ → Bool) → ℕ → Bool
all_below test zero = true
all_below test (suc n) = test n && all_below test n

each_below : (test : ℕ → Bool) (n k : ℕ) → all_below test n ≡ true → k < n → test k ≡ true
each_below test zero k all lt = absurd (omega arith)
each_below test (suc n) k all lt =
    let p = and_parts (test n) (all_below test n) all in
    elim (cases_lt k n) [
      | inl below ↦ each_below test n k p.1 below
      | inr above ↦ let same : n ≡ k = omega arith in subst (λ (i : ℕ). test i ≡ true) same p.0
    ]

pub words_below : all_below is_pin_word 32 ≡ true
unfolding digits is_keyword
words_below = refl

-- what is known of the number of a pin
pub record IsPinNumber (pin : ℕ) : Type 0 where
  pub later : list_all is_name_later (decimal pin) ≡ true
  pub plain : is_keyword (name_text pin) ≡ false
  pub short : nat_lt 31 (length (name_text pin)) ≡ false
  pub word : is_number_word (decimal pin) ≡ true
  pub good : is_good_number 10 (decimal pin) ≡ true
  pub value : number_value 10 (decimal pin) ≡ pin

pub pin_number : (pin : ℕ) → pin < 32 → IsPinNumber pin
pin_number pin lt =
    let all = each_below is_pin_word 32 pin words_below lt in
    let two = and_parts _ (is_number_word (decimal pin) && (is_good_number 10 (decimal pin) && (number_value 10 (decimal pin) == pin))) all in
    let a = and_parts (list_all is_name_later (decimal pin)) _ two.0 in
    let b = and_parts (not (is_keyword (name_text pin))) (not (nat_lt 31 (length (name_text pin)))) a.1 in
    let c = and_parts (is_number_word (decimal pin)) _ two.1 in
    let d = and_parts (is_good_number 10 (decimal pin)) (number_value 10 (decimal pin) == pin) c.1 in
    record {
      later = a.0;
      plain = not-true (is_keyword (name_text pin)) b.0;
      short = not-true (nat_lt 31 (length (name_text pin))) b.1;
      word = c.0;
      good = d.0;
      value = eqb-true (number_value 10 (decimal pin)) pin d.1;
    }
