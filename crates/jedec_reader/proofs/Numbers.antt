-- A number below 65,536, read digit by digit.
use Rattle.std.proofs.Common.{◌≡◌, ℕ, ◌+◌, ◌-◌, ◌*◌, ◌^◌, ◌<◌, ◌≤◌, Bool, true, false, nat_lt, List, [], ◌∷◌, Option, Some, None, option_and_then, if◌then◌else◌, inl, inr, refl, sym, arith}
use Rattle.jedec_reader.proofs.Common.{cases_Bool, lt-ltb, le-ltb, nat_tests, all_ascii_digits, short_number}
use Rattle.std.specs.Char.{is_ascii_digit, digit_value}
use Rattle.std.specs.Str.Parse.{digits_value_after}

-- the number of the digits after those of n
abbrev pub short_after : ℕ → List ℕ → Option ℕ
short_after n [] = Some n
short_after n (b ∷ bs) =
    if is_ascii_digit b then if nat_lt (10 * n + (b - 48)) 65536 then short_after (10 * n + (b - 48)) bs else None else None

-- a value that there is if the bytes are digits, and that counts below 65,536
abbrev short_of : Bool → ℕ → Option ℕ
short_of digits n = option_and_then (λ n. if nat_lt n (2 ^ 16) then Some n else None) (if digits then Some n else None)

short_of_none : (digits : Bool) (n : ℕ) → 2 ^ 16 ≤ n → short_of digits n ≡ None
short_of_none false n high = refl
short_of_none true n high = rw (le-ltb n (2 ^ 16) high) refl

digit_is : (b : ℕ) → is_ascii_digit b ≡ true → digit_value b ≡ b - 48
digit_is b is = grind (arith, nat_tests)

value_grows : (n : ℕ) (bs : List ℕ) → n ≤ digits_value_after 10 n bs
value_grows n [] = omega arith
value_grows n (b ∷ bs) = omega (arith, value_grows (n * 10 + digit_value b) bs)

short_after_is : (n : ℕ) (bs : List ℕ) → n < 65536 → short_after n bs ≡ short_of (all_ascii_digits bs) (digits_value_after 10 n bs)
short_after_is n [] small = rw (lt-ltb n (2 ^ 16) small) refl
short_after_is n (b ∷ bs) small = elim (cases_Bool (is_ascii_digit b)) [
  | inr no_digit ↦ rw no_digit refl
  | inl digit ↦
      let next : n * 10 + digit_value b ≡ 10 * n + (b - 48) = omega (arith, digit_is b digit) in
      elim (cases_Bool (nat_lt (10 * n + (b - 48)) 65536)) [
        | inl low ↦ rw (digit, low, next) (short_after_is (10 * n + (b - 48)) bs (grind (arith, nat_tests)))
        | inr high ↦
            let grown = value_grows (10 * n + (b - 48)) bs in
            rw (digit, high, next) (sym (short_of_none (all_ascii_digits bs) _ (grind (arith, nat_tests))))
      ]
]

pub short_after_zero : (word : List ℕ) → short_after 0 word ≡ short_number word
short_after_zero word = short_after_is 0 word (omega arith)
