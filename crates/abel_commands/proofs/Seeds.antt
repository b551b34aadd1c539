-- The number that a word of digits is, as `parse` reads it.
use Rattle.std.proofs.Common.{◌≡◌, ℕ, ◌^◌, ◌<◌, Bool, true, false, ◌&&◌, nat_lt, List, length, Some, Ok, Err, refl, ap, rules, Result}
use Rattle.abel_commands.proofs.Common.{is_ascii_digit, list_all, lt-ltb, ltb-true, are_few_digits, is_seed, seed_of}
use Rattle.std.specs.Result.{OkIff, result_ok}
use Rattle.std.specs.Str.Parse.{ParsesUnsigned, digits_value}
use Rattle.std.proofs.lemmas.Str.Parse.{IsNumeralModel, numerals_by_value, parse_digits}

and_second : (a b : Bool) → (a && b) ≡ true → b ≡ true
and_second true b is = is
and_second false b is = absurd cc

-- the tests of each byte, and the value, are those of a numeral
pub digits_are : IsNumeralModel (λ ds. list_all is_ascii_digit ds ≡ true) (digits_value 10)
digits_are = numerals_by_value _ (search rules)

module _ (word : List ℕ) (few : are_few_digits word ≡ true) where
  digits : list_all is_ascii_digit word ≡ true
  digits = and_second _ _ few

  is_one : 0 < length word → digits_value 10 word < 2 ^ 16 → is_seed word ≡ true
  is_one long small = rw (few, lt-ltb 0 (length word) long, lt-ltb (digits_value 10 word) 65536 small) refl

  by_tests : ((0 < length word) × (digits_value 10 word < 2 ^ 16) → ⊥) → (a b : Bool) → nat_lt 0 (length word) ≡ a → nat_lt (digits_value 10 word) 65536 ≡ b → is_seed word ≡ false
  by_tests never true true long small = absurd (never (ltb-true 0 (length word) long, ltb-true (digits_value 10 word) 65536 small))
  by_tests never true false long small = rw (few, long, small) refl
  by_tests never false b long small = rw (few, long) refl

  by_result : {E : Type 0} (r : Result ℕ E) → OkIff r ((0 < length word) × (digits_value 10 word < 2 ^ 16)) (digits_value 10 word) → result_ok r ≡ seed_of word
  by_result (Ok n) ((long, small), is) = rw (is_one long small) (ap (λ (x : ℕ). Some x) is)
  by_result (Err fault) never = rw (by_tests never _ _ refl refl) refl

  pub seed_parsed : {E : Type 0} (r : Result ℕ E) → ParsesUnsigned 16 10 word r → result_ok r ≡ seed_of word
  seed_parsed r parses = by_result r (parse_digits digits_are 16 word r parses digits)
