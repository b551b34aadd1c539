-- Sums of words of formulas have the values of the arithmetic on numbers.
use Rattle.std.proofs.Common.{◌≡◌, ℕ, zero, suc, ◌+◌, ◌*◌, ◌/◌, ◌%◌, ◌≤◌, Bool, true, false, ◌&&◌, ◌||◌, List, [], ◌∷◌, map, refl, sym, ap, ap₂, ◌∙◌, arith, ◌==◌}
use Rattle.abel_meaning.proofs.Common.{Levels, digits_low_first, one_bit, Formula, formula_value, differ, and_value, or_value, xor_value, make_and, make_or, make_xor, Word, sum_bit, next_carry, sum_bits}

-- the sum of a position, and its carry, as truth values
abbrev pub sum_of : Bool → Bool → Bool → Bool
sum_of x y carry = differ (differ x y) carry

abbrev pub carry_of : Bool → Bool → Bool → Bool
carry_of x y carry = x && y || (x || y) && carry

abbrev pub added : List Bool → List Bool → Bool → List Bool
added [] ys carry = []
added (x ∷ xs) [] carry = []
added (x ∷ xs) (y ∷ ys) carry = sum_of x y carry ∷ added xs ys (carry_of x y carry)

sum_bit_value : (at : Levels) (x y c : Formula) → formula_value at (sum_bit x y c).what ≡ sum_of (formula_value at x) (formula_value at y) (formula_value at c)
sum_bit_value at x y c =
    xor_value at (make_xor x y).what c ∙ ap (λ p. differ p (formula_value at c)) (xor_value at x y)

carry_value : (at : Levels) (x y c : Formula) → formula_value at (next_carry x y c).what ≡ carry_of (formula_value at x) (formula_value at y) (formula_value at c)
carry_value at x y c =
    or_value at (make_and x y).what (make_and (make_or x y).what c).what
    ∙ ap₂ (λ p q. p || q) (and_value at x y)
    (and_value at (make_or x y).what c ∙ ap (λ p. p && formula_value at c) (or_value at x y))

-- the formulas of a sum have the values of the sum of truth values
pub added_value : (at : Levels) (xs ys : Word) (c : Formula) → map (formula_value at) (sum_bits xs ys c).what ≡ added (map (formula_value at) xs) (map (formula_value at) ys) (formula_value at c)
added_value at [] ys c = refl
added_value at (x ∷ []) [] c = refl
added_value at (x ∷ x1 ∷ xs) [] c = refl
added_value at (x ∷ []) (y ∷ ys) c = ap (λ s. s ∷ []) (sum_bit_value at x y c)
added_value at (x ∷ x1 ∷ xs) (y ∷ ys) c =
    ap₂ (λ s ss. s ∷ ss) (sum_bit_value at x y c)
    (added_value at (x1 ∷ xs) ys (next_carry x y c).what
    ∙ ap (λ k. added (map (formula_value at) (x1 ∷ xs)) (map (formula_value at) ys) k) (carry_value at x y c))

-- a full adder adds
full_adder : (a b c : Bool) → one_bit a + one_bit b + one_bit c ≡ one_bit (sum_of a b c) + 2 * one_bit (carry_of a b c)
full_adder true true true = refl
full_adder true true false = refl
full_adder true false true = refl
full_adder true false false = refl
full_adder false true true = refl
full_adder false true false = refl
full_adder false false true = refl
full_adder false false false = refl

pub one_bit_test : (b : Bool) → (one_bit b == 1) ≡ b
one_bit_test true = refl
one_bit_test false = refl

pub one_bit_small : (b : Bool) → one_bit b ≤ 1
one_bit_small true = omega arith
one_bit_small false = omega arith

-- the lowest bit of a number
pub lowest_bit : (n : ℕ) → one_bit (n % 2 == 1) ≡ n % 2
lowest_bit n = by_value (n % 2) (omega arith)
  where
    by_value : (m : ℕ) → m ≤ 1 → one_bit (m == 1) ≡ m
    by_value zero small = refl
    by_value (suc zero) small = refl
    by_value (suc (suc m)) small = absurd (omega arith)

-- the digits of a sum are those that a ripple carry adds
pub digits_of_sum : (w x y : ℕ) (c : Bool) → added (digits_low_first w x) (digits_low_first w y) c ≡ digits_low_first w (x + y + one_bit c)
digits_of_sum zero x y c = refl
digits_of_sum (suc w) x y c =
    ap₂ (λ b bs. b ∷ bs) (lowest refl refl) (digits_of_sum w (x / 2) (y / 2) k ∙ ap (λ n. digits_low_first w n) (halves refl refl))
  where
    k : Bool
    k = carry_of (x % 2 == 1) (y % 2 == 1) c

    s : Bool
    s = sum_of (x % 2 == 1) (y % 2 == 1) c

    adder : (u v : Bool) → u ≡ carry_of (x % 2 == 1) (y % 2 == 1) c → v ≡ sum_of (x % 2 == 1) (y % 2 == 1) c → x % 2 + y % 2 + one_bit c ≡ one_bit v + 2 * one_bit u
    adder u v p q =
        ap₂ (λ a b. a + b + one_bit c) (sym (lowest_bit x)) (sym (lowest_bit y))
        ∙ full_adder (x % 2 == 1) (y % 2 == 1) c
        ∙ ap₂ (λ a b. one_bit a + 2 * one_bit b) (sym q) (sym p)

    halves : {u v : Bool} → u ≡ carry_of (x % 2 == 1) (y % 2 == 1) c → v ≡ sum_of (x % 2 == 1) (y % 2 == 1) c → x / 2 + y / 2 + one_bit u ≡ (x + y + one_bit c) / 2
    halves {u} {v} p q = let e = adder u v p q in let small = one_bit_small v in omega arith

    lowest : {u v : Bool} → u ≡ carry_of (x % 2 == 1) (y % 2 == 1) c → v ≡ sum_of (x % 2 == 1) (y % 2 == 1) c → v ≡ ((x + y + one_bit c) % 2 == 1)
    lowest {u} {v} p q =
        let e = adder u v p q in
        let small = one_bit_small v in
        let m : one_bit v ≡ (x + y + one_bit c) % 2 = omega arith in
        sym (one_bit_test v) ∙ ap (λ n. n == 1) m
