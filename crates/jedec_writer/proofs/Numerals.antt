-- The numbers, levels and characters of a fuse file are words, and are read as what was written.
use Rattle.std.proofs.Common.{◌≡◌, ℕ, ◌+◌, ◌*◌, ◌/◌, ◌%◌, ◌^◌, ◌<◌, Bool, true, false, List, [], ◌∷◌, length, map, Some, refl, sym, ap, ◌∙◌, arith, inl, inr}
use Rattle.jedec_writer.proofs.Common.{list_all, decimal, and_parts, and_from, lt-ltb, agree_below_at, cases_lt, true≢false, nat_tests, four_digits, hex_digit, four_hex, level_char, hex_value, four_hex_value, has_bytes, number, short_number, level_of, each_of, is_test_char}
use Rattle.std.specs.Char.{is_ascii_digit, digit_value}
use Rattle.std.specs.Str.{all_ascii_digits}
use Rattle.std.specs.Str.Parse.{digits_value}
use Rattle.std.proofs.lemmas.Fmt.{digits_decimal, digits_value-decimal, decimal_nonempty}
use Rattle.std.proofs.lemmas.Str.Parse.{IsNumeralModel, numerals_by_value, tells_all_ascii_digits}
use Rattle.jedec_writer.proofs.Words.{IsWord, is_word_byte}

some_there : (bs : List ℕ) → 0 < length bs → has_bytes bs ≡ true
some_there [] some = absurd (omega arith)
some_there (b ∷ bs) some = refl

-- ---- decimal numbers

own : IsNumeralModel (λ ds. all_ascii_digits ds ≡ true) (digits_value 10)
own = numerals_by_value (λ ds. all_ascii_digits ds ≡ true) tells_all_ascii_digits

digit_in_word : (b : ℕ) → is_ascii_digit b ≡ true → is_word_byte b ≡ true
digit_in_word b digit = grind (arith, nat_tests)

digits_in_word : (ds : List ℕ) → all_ascii_digits ds ≡ true → list_all is_word_byte ds ≡ true
digits_in_word [] all = refl
digits_in_word (d ∷ ds) all =
    let parts = and_parts (is_ascii_digit d) (all_ascii_digits ds) all in
    and_from (is_word_byte d) (list_all is_word_byte ds) (digit_in_word d parts.0) (digits_in_word ds parts.1)

digits_are_word : (ds : List ℕ) → all_ascii_digits ds ≡ true → 0 < length ds → IsWord ds
digits_are_word ds all some = record { bytes = digits_in_word ds all; some = some_there ds some }

number_from_digits : (ds : List ℕ) (n : ℕ) → all_ascii_digits ds ≡ true → digits_value 10 ds ≡ n → number ds ≡ Some n
number_from_digits ds n all value = rw (all, value) refl

short_from_number : (ds : List ℕ) (n : ℕ) → number ds ≡ Some n → n < 2 ^ 16 → short_number ds ≡ Some n
short_from_number ds n reads short = rw (reads, lt-ltb n (2 ^ 16) short) refl

pub decimal_is_word : (n : ℕ) → n < 2 ^ 16 → IsWord (decimal n)
decimal_is_word n short =
    let fits : n < 2 ^ 64 = omega arith in
    digits_are_word (decimal n) (digits_decimal own n fits) (decimal_nonempty n fits)

pub short_number-decimal : (n : ℕ) → n < 2 ^ 16 → short_number (decimal n) ≡ Some n
short_number-decimal n short =
    let fits : n < 2 ^ 64 = omega arith in
    short_from_number (decimal n) n (number_from_digits (decimal n) n (digits_decimal own n fits) (digits_value-decimal own n fits)) short

-- ---- four digits

is_digit : (d : ℕ) → d < 10 → is_ascii_digit (48 + d) ≡ true
is_digit d low = grind (arith, nat_tests)

value_of_digit : (d : ℕ) → d < 10 → digit_value (48 + d) ≡ d
value_of_digit d low = grind (arith, nat_tests)

four_digits_are_digits : (n : ℕ) → all_ascii_digits (four_digits n) ≡ true
four_digits_are_digits n =
    rw (is_digit (n / 1000 % 10) (omega arith), is_digit (n / 100 % 10) (omega arith), is_digit (n / 10 % 10) (omega arith), is_digit (n % 10) (omega arith)) refl

four_digits_value : (n : ℕ) → n < 10000 → digits_value 10 (four_digits n) ≡ n
four_digits_value n small =
    rw (value_of_digit (n / 1000 % 10) (omega arith), value_of_digit (n / 100 % 10) (omega arith), value_of_digit (n / 10 % 10) (omega arith), value_of_digit (n % 10) (omega arith)) (omega arith)

pub four_digits_are_word : (n : ℕ) → IsWord (four_digits n)
four_digits_are_word n = digits_are_word (four_digits n) (four_digits_are_digits n) (omega arith)

pub number-four_digits : (n : ℕ) → n < 10000 → number (four_digits n) ≡ Some n
number-four_digits n small = number_from_digits (four_digits n) n (four_digits_are_digits n) (four_digits_value n small)

pub short_number-four_digits : (n : ℕ) → n < 10000 → short_number (four_digits n) ≡ Some n
short_number-four_digits n small = short_from_number (four_digits n) n (number-four_digits n small) (omega arith)

-- ---- hexadecimal digits

hex_digit_back : (d : ℕ) → d < 16 → hex_value (hex_digit d) ≡ Some d
hex_digit_back d low = grind (arith, nat_tests)

hex_digit_in_word : (d : ℕ) → is_word_byte (hex_digit d) ≡ true
hex_digit_in_word d = grind (arith, nat_tests)

pub four_hex_is_word : (n : ℕ) → IsWord (four_hex n)
four_hex_is_word n = record {
  bytes = rw (hex_digit_in_word (n / 4096 % 16), hex_digit_in_word (n / 256 % 16), hex_digit_in_word (n / 16 % 16), hex_digit_in_word (n % 16)) refl;
  some = refl;
}

whole : (n : ℕ) → n < 2 ^ 16 → 16 * (16 * (16 * (16 * 0 + n / 4096 % 16) + n / 256 % 16) + n / 16 % 16) + n % 16 ≡ n
whole n fits = omega arith

pub four_hex_value-four_hex : (n : ℕ) → n < 2 ^ 16 → four_hex_value (four_hex n) ≡ Some n
four_hex_value-four_hex n fits =
    rw (hex_digit_back (n / 4096 % 16) (omega arith), hex_digit_back (n / 256 % 16) (omega arith), hex_digit_back (n / 16 % 16) (omega arith), hex_digit_back (n % 16) (omega arith))
    (ap (λ (m : ℕ). Some m) (whole n fits))

-- ---- levels

levels_in_word : (levels : List Bool) → list_all is_word_byte (map level_char levels) ≡ true
levels_in_word [] = refl
levels_in_word (true ∷ levels) = levels_in_word levels
levels_in_word (false ∷ levels) = levels_in_word levels

pub levels_are_word : (level : Bool) (levels : List Bool) → IsWord (map level_char (level ∷ levels))
levels_are_word level levels = record { bytes = levels_in_word (level ∷ levels); some = refl }

pub each_of-levels : (levels : List Bool) → each_of level_of (map level_char levels) ≡ Some levels
each_of-levels [] = refl
each_of-levels (true ∷ levels) = rw (each_of-levels levels) refl
each_of-levels (false ∷ levels) = rw (each_of-levels levels) refl

-- ---- characters of test vectors

test_char_in_word : (b : ℕ) → is_test_char b ≡ true → is_word_byte b ≡ true
test_char_in_word b test = elim (cases_lt 42 b) [
  | inl above ↦ lt-ltb 42 b above
  | inr low ↦ absurd (true≢false (sym test ∙ agree_below_at is_test_char (λ c. false) 43 b refl (omega arith)))
]

test_chars_in_word : (chars : List ℕ) → list_all is_test_char chars ≡ true → list_all is_word_byte chars ≡ true
test_chars_in_word [] test = refl
test_chars_in_word (b ∷ bs) test =
    let parts = and_parts (is_test_char b) (list_all is_test_char bs) test in
    and_from (is_word_byte b) (list_all is_word_byte bs) (test_char_in_word b parts.0) (test_chars_in_word bs parts.1)

pub chars_are_word : (chars : List ℕ) → list_all is_test_char chars ≡ true → 0 < length chars → IsWord chars
chars_are_word chars test some = record { bytes = test_chars_in_word chars test; some = some_there chars some }
