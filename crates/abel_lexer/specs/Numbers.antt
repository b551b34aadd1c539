-- Numbers in words (ABEL-HDL Reference Manual, numbers; 2^32 - 1 as the largest is this project's
-- rule).
use Rattle.std.specs.Prelude.{ℕ, ◌^◌, Bool, ◌==◌, ◌&&◌, ◌||◌, nat_lt, List, [], ◌∷◌, if◌then◌else◌}
use Rattle.std.specs.List.{list_all}
use Rattle.std.specs.Char.{is_digit}
use Rattle.std.specs.Str.Parse.{digits_value}
use Rattle.abel_lexer.specs.Bytes.{caret, is_letter}

-- the radix that the letter after `^` names: b 2, o 8, h 16, and d 10
abbrev pub marked_radix : ℕ → ℕ
marked_radix l = if is_letter 98 l then 2 else if is_letter 111 l then 8 else if is_letter 104 l then 16 else 10

-- the radix that a number is read in, if this one is in force: its own, if it has a mark as `^h1F`
-- has
abbrev pub radix_of : ℕ → List ℕ → ℕ
radix_of radix [] = radix
radix_of radix (b ∷ []) = radix
radix_of radix (b ∷ l ∷ ds) = if b == caret then marked_radix l else radix

-- a number without its mark
abbrev pub digits_of : List ℕ → List ℕ
digits_of [] = []
digits_of (b ∷ []) = b ∷ []
digits_of (b ∷ l ∷ ds) = if b == caret then ds else b ∷ l ∷ ds

-- each of these is a digit of the radix, and their value is below 2 to the 32
abbrev pub are_good_digits : ℕ → List ℕ → Bool
are_good_digits radix ds = list_all (λ d. is_digit d radix) ds && nat_lt (digits_value radix ds) (2 ^ 32)

-- what a number says, if this radix is in force
abbrev pub number_value : ℕ → List ℕ → ℕ
number_value radix w = digits_value (radix_of radix w) (digits_of w)

-- whether a number has only digits of its radix and a value below 2 to the 32
abbrev pub is_good_number : ℕ → List ℕ → Bool
is_good_number radix w = are_good_digits (radix_of radix w) (digits_of w)

-- the radices that `@RADIX` may set
abbrev pub is_radix : ℕ → Bool
is_radix n = n == 2 || n == 8 || n == 10 || n == 16
