-- Digits are good if each is one of the radix and the value stays small.
use Rattle.std.proofs.Common.{◌≡◌, ℕ, zero, suc, ◌+◌, ◌*◌, ◌^◌, ◌<◌, ◌≤◌, ◌⊎◌, inl, inr, Bool, true, false, List, [], ◌∷◌, length, drop, drop-cons, get_or, refl, sym, ap, subst, ◌∙◌, arith, ◌&&◌, nat_lt}
use Rattle.abel_lexer.proofs.Common.{list_all, digit_value, is_digit, digits_value, digits_value_after, ltb-true, ltb-false, are_good_digits}
use Rattle.std.proofs.Math.Nat.{le-mul_of_pos_right}
use Rattle.abel_lexer.proofs.Booleans.{bool_cases, and_both}

-- a value is no less with more digits after it
value_grows : (radix n : ℕ) (cs : List ℕ) → 0 < radix → n ≤ digits_value_after radix n cs
value_grows radix n [] lt = omega arith
value_grows radix n (c ∷ cs) lt =
    let more = value_grows radix (n * radix + digit_value c) cs lt in
    let grows : n ≤ n * radix = le-mul_of_pos_right n lt in
    omega (arith, more, grows)

-- all digits have been read
pub good_digits : (radix value : ℕ) (bytes : List ℕ) → value ≡ digits_value radix bytes → true ≡ list_all (λ d. is_digit d radix) bytes → value < 2 ^ 32 → are_good_digits radix bytes ≡ true
good_digits radix value bytes v d lt = and_both _ _ (sym d) (lt_true _ (2 ^ 32) (subst (λ (n : ℕ). n < 2 ^ 32) v lt))
  where
    lt_true : (a b : ℕ) → a < b → nat_lt a b ≡ true
    lt_true a b lt = elim (bool_cases (nat_lt a b)) [ inl e ↦ e | inr e ↦ absurd (let le = ltb-false a b e in omega arith) ]

false_and : (a b : Bool) → b ≡ false → (a && b) ≡ false
false_and true b e = e
false_and false b e = refl

-- a digit of another radix, or a value that is too large, is there
pub bad_digits : (radix value i : ℕ) (bytes : List ℕ) → 0 < radix → i < length bytes
    → digits_value_after radix value (drop i bytes) ≡ digits_value radix bytes → list_all (λ d. is_digit d radix) (drop i bytes) ≡ list_all (λ d. is_digit d radix) bytes
    → (is_digit (get_or bytes i 0) radix ≡ false) ⊎ (2 ^ 32 ≤ value * radix + digit_value (get_or bytes i 0)) → are_good_digits radix bytes ≡ false
bad_digits radix value i bytes pos lt v d (inl wrong) =
    let front : list_all (λ d. is_digit d radix) (drop i bytes) ≡ false = ap (list_all (λ d. is_digit d radix)) (drop-cons bytes i 0 lt) ∙ rw wrong refl in
    let none : list_all (λ d. is_digit d radix) bytes ≡ false = sym d ∙ front in
    rw none refl
bad_digits radix value i bytes pos lt v d (inr large) =
    let step : digits_value_after radix (value * radix + digit_value (get_or bytes i 0)) (drop (suc i) bytes) ≡ digits_value radix bytes = sym (ap (digits_value_after radix value) (drop-cons bytes i 0 lt)) ∙ v in
    let grows = value_grows radix (value * radix + digit_value (get_or bytes i 0)) (drop (suc i) bytes) pos in
    false_and _ (nat_lt (digits_value radix bytes) (2 ^ 32)) (
    elim (bool_cases (nat_lt (digits_value radix bytes) (2 ^ 32))) [
      | inl e ↦ absurd (let small = ltb-true _ _ e in omega (arith, grows, step, large))
      | inr e ↦ e
    ]
    )
