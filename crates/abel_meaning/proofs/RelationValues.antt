-- Relations of words have the values of the relations of their numbers, with dropped positions left out.
use Rattle.std.proofs.Common.{◌≡◌, ℕ, zero, suc, ◌+◌, ◌*◌, ◌/◌, ◌%◌, ◌^◌, ◌<◌, ◌≤◌, Bool, true, false, not, ◌&&◌, ◌||◌, List, [], ◌∷◌, map, refl, sym, ap, ap₂, ◌∙◌, arith, ◌==◌, nat_lt}
use Rattle.abel_meaning.proofs.Common.{lt-ltb, ltb-true, same_from_decides, pow-succ', Levels, digits_low_first, one_bit, kept, Formula, formula_value, differ, make_not, make_and, make_or, make_xor, Word, less_bit, less_bits, equal_bits, kept_bits, not_value, and_value, or_value, xor_value}
use Rattle.abel_meaning.proofs.WordValues.{lowest_bit}

-- less up to a position, and over a word
abbrev pub less_of : Bool → Bool → Bool → Bool
less_of x y less = not x && y || (not x || y) && less

abbrev pub lesser : Bool → List Bool → List Bool → Bool
lesser less [] ys = less
lesser less (x ∷ xs) [] = less
lesser less (x ∷ xs) (y ∷ ys) = lesser (less_of x y less) xs ys

less_bit_value : (at : Levels) (x y l : Formula) → formula_value at (less_bit x y l).what ≡ less_of (formula_value at x) (formula_value at y) (formula_value at l)
less_bit_value at x y l =
    or_value at (make_and (make_not x).what y).what (make_and (make_or (make_not x).what y).what l).what
    ∙ ap₂ (λ p q. p || q)
    (and_value at (make_not x).what y ∙ ap (λ n. n && formula_value at y) (not_value at x))
    (and_value at (make_or (make_not x).what y).what l
    ∙ ap (λ p. p && formula_value at l) (or_value at (make_not x).what y ∙ ap (λ n. n || formula_value at y) (not_value at x)))

pub lesser_value : (at : Levels) (l : Formula) (xs ys : Word) → formula_value at (less_bits l xs ys).what ≡ lesser (formula_value at l) (map (formula_value at) xs) (map (formula_value at) ys)
lesser_value at l [] ys = refl
lesser_value at l (x ∷ xs) [] = refl
lesser_value at l (x ∷ xs) (y ∷ ys) =
    lesser_value at (less_bit x y l).what xs ys
    ∙ ap (λ k. lesser k (map (formula_value at) xs) (map (formula_value at) ys)) (less_bit_value at x y l)

-- what the comparison of a position says of its bits
low_side : (a b l : Bool) → one_bit a + 2 * one_bit (less_of a b l) ≤ one_bit b + one_bit l + 1
low_side true true true = omega arith
low_side true true false = omega arith
low_side true false true = omega arith
low_side true false false = omega arith
low_side false true true = omega arith
low_side false true false = omega arith
low_side false false true = omega arith
low_side false false false = omega arith

high_side : (a b l : Bool) → one_bit b + one_bit l ≤ one_bit a + 2 * one_bit (less_of a b l)
high_side true true true = omega arith
high_side true true false = omega arith
high_side true false true = omega arith
high_side true false false = omega arith
high_side false true true = omega arith
high_side false true false = omega arith
high_side false false true = omega arith
high_side false false false = omega arith

-- two orders that decide each other
same_order : (p q r s : ℕ) → (p < q → r < s) → (r < s → p < q) → nat_lt p q ≡ nat_lt r s
same_order p q r s to back =
    same_from_decides {P = r < s} (nat_lt p q) (nat_lt r s)
    (λ e. to (ltb-true p q e), λ lt. lt-ltb p q (back lt))
    (λ e. ltb-true r s e, λ lt. lt-ltb r s lt)

-- the digits of two numbers compare as the numbers do
pub digits_less : (w x y : ℕ) (l : Bool) → x < 2 ^ w → y < 2 ^ w → lesser l (digits_low_first w x) (digits_low_first w y) ≡ nat_lt x (y + one_bit l)
digits_less zero x y l low high = at_zero l
  where
    none : x ≡ 0
    none = omega arith

    nought : y ≡ 0
    nought = omega arith

    zero_less : (b : Bool) → b ≡ nat_lt 0 (0 + one_bit b)
    zero_less true = refl
    zero_less false = refl

    at_zero : (b : Bool) → b ≡ nat_lt x (y + one_bit b)
    at_zero b = zero_less b ∙ ap₂ (λ m n. nat_lt m (n + one_bit b)) (sym none) (sym nought)
digits_less (suc w) x y l low high =
    digits_less w (x / 2) (y / 2) (less_of (x % 2 == 1) (y % 2 == 1) l) (half x low) (half y high)
    ∙ same_order (x / 2) (y / 2 + one_bit (less_of (x % 2 == 1) (y % 2 == 1) l)) x (y + one_bit l)
    (forth (x % 2 == 1) (y % 2 == 1) (lowest_bit x) (lowest_bit y))
    (back (x % 2 == 1) (y % 2 == 1) (lowest_bit x) (lowest_bit y))
  where
    half : (n : ℕ) → n < 2 ^ suc w → n / 2 < 2 ^ w
    half n small = let e = pow-succ' 2 w in omega arith

    forth : (a b : Bool) → one_bit a ≡ x % 2 → one_bit b ≡ y % 2 → x / 2 < y / 2 + one_bit (less_of a b l) → x < y + one_bit l
    forth a b p q lt = let one = low_side a b l in let two = high_side a b l in omega arith

    back : (a b : Bool) → one_bit a ≡ x % 2 → one_bit b ≡ y % 2 → x < y + one_bit l → x / 2 < y / 2 + one_bit (less_of a b l)
    back a b p q lt = let one = low_side a b l in let two = high_side a b l in omega arith

-- all positions agree
abbrev pub agree : Bool → List Bool → List Bool → Bool
agree found [] ys = found
agree found (x ∷ xs) [] = found
agree found (x ∷ xs) (y ∷ ys) = agree (found && not (differ x y)) xs ys

pub agree_value : (at : Levels) (f : Formula) (xs ys : Word) → formula_value at (equal_bits f xs ys).what ≡ agree (formula_value at f) (map (formula_value at) xs) (map (formula_value at) ys)
agree_value at f [] ys = refl
agree_value at f (x ∷ xs) [] = refl
agree_value at f (x ∷ xs) (y ∷ ys) =
    agree_value at (make_and f (make_not (make_xor x y).what).what).what xs ys
    ∙ ap (λ k. agree k (map (formula_value at) xs) (map (formula_value at) ys))
    (and_value at f (make_not (make_xor x y).what).what
    ∙ ap (λ b. formula_value at f && b) (not_value at (make_xor x y).what ∙ ap not (xor_value at x y)))

-- dropping positions of formulas drops those of their values
abbrev pub kept_digits : List Bool → List Bool → List Bool
kept_digits [] xs = []
kept_digits (b ∷ bs) [] = []
kept_digits (true ∷ bs) (x ∷ xs) = kept_digits bs xs
kept_digits (false ∷ bs) (x ∷ xs) = x ∷ kept_digits bs xs

pub kept_value : (at : Levels) (bs : List Bool) (xs : Word) → map (formula_value at) (kept_bits bs xs) ≡ kept_digits bs (map (formula_value at) xs)
kept_value at [] xs = refl
kept_value at (b ∷ bs) [] = refl
kept_value at (true ∷ bs) (x ∷ xs) = kept_value at bs xs
kept_value at (false ∷ bs) (x ∷ xs) = ap (λ ys. formula_value at x ∷ ys) (kept_value at bs xs)

-- how many of w positions are kept
abbrev pub kept_width : List Bool → ℕ → ℕ
kept_width [] w = 0
kept_width (b ∷ bs) zero = 0
kept_width (true ∷ bs) (suc w) = kept_width bs w
kept_width (false ∷ bs) (suc w) = suc (kept_width bs w)

-- the digits that are kept are those of the number of the kept positions
pub digits_kept : (bs : List Bool) (w n : ℕ) → kept_digits bs (digits_low_first w n) ≡ digits_low_first (kept_width bs w) (kept bs n)
digits_kept [] w n = refl
digits_kept (true ∷ bs) zero n = refl
digits_kept (false ∷ bs) zero n = refl
digits_kept (true ∷ bs) (suc w) n = digits_kept bs w (n / 2)
digits_kept (false ∷ bs) (suc w) n =
    ap₂ (λ d ds. d ∷ ds) (ap (λ m. m == 1) lowest) (digits_kept bs w (n / 2) ∙ ap (λ m. digits_low_first (kept_width bs w) m) rest)
  where
    lowest : n % 2 ≡ (n % 2 + 2 * kept bs (n / 2)) % 2
    lowest = omega arith

    rest : kept bs (n / 2) ≡ (n % 2 + 2 * kept bs (n / 2)) / 2
    rest = omega arith
