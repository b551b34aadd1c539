-- Operators and relations on words have the values of those on numbers.
use Rattle.std.proofs.Common.{◌≡◌, ℕ, zero, suc, ◌+◌, ◌/◌, ◌%◌, ◌^◌, ◌<◌, Bool, true, false, not, ◌&&◌, ◌||◌, List, [], ◌∷◌, map, length, refl, sym, ap, ap₂, ◌∙◌, arith}
use Rattle.abel_meaning.proofs.Common.{Levels, same_level, Binary, digits_low_first, one_bit, number_with, zipped, kept, computes, Formula, Const, formula_value, differ, make_not, make_and, make_or, make_xor, Made, ◌>>=◌, Word, word_by_position, sum_bits, operator_bits, not_value, and_value, or_value, xor_value}
use Rattle.abel_meaning.specs.Numbers as numbers
use Rattle.abel_tree.specs.declared.words.Binary.TheVariants as binary
use Rattle.abel_meaning.proofs.WordValues.{added, added_value, digits_of_sum}
use Rattle.abel_meaning.proofs.DigitLaws.{digits_mod, length_digits, digits_of_number, length_zipped}
use Rattle.abel_meaning.proofs.TermValues.{difference_value}

-- an operator that works by position
position_value : (at : Levels) (make : Formula → Formula → Made Formula) (f : Bool → Bool → Bool) → ((x y : Formula) → formula_value at (make x y).what ≡ f (formula_value at x) (formula_value at y)) → (xs ys : Word) → map (formula_value at) (word_by_position make xs ys).what ≡ zipped f (map (formula_value at) xs) (map (formula_value at) ys)
position_value at make f law [] ys = refl
position_value at make f law (x ∷ xs) [] = refl
position_value at make f law (x ∷ xs) (y ∷ ys) = ap₂ (λ b bs. b ∷ bs) (law x y) (position_value at make f law xs ys)

zipped_digits : (f : Bool → Bool → Bool) (w x y : ℕ) → zipped f (digits_low_first w x) (digits_low_first w y) ≡ digits_low_first w (numbers.by_position f w x y)
zipped_digits f w x y =
    sym (digits_of_number (zipped f (digits_low_first w x) (digits_low_first w y)))
    ∙ ap (λ m. digits_low_first m (numbers.by_position f w x y))
    (length_zipped f (digits_low_first w x) (digits_low_first w y) (length_digits w x ∙ sym (length_digits w y)) ∙ length_digits w x)

same_value : (a b : Bool) → not (differ a b) ≡ same_level a b
same_value true true = refl
same_value true false = refl
same_value false true = refl
same_value false false = refl

xnor_value : (at : Levels) (x y : Formula) → formula_value at (make_xor x y >>= make_not).what ≡ same_level (formula_value at x) (formula_value at y)
xnor_value at x y =
    not_value at (make_xor x y).what ∙ ap not (xor_value at x y) ∙ same_value (formula_value at x) (formula_value at y)

-- words of two numbers
pub record AreWords (at : Levels) (w x y : ℕ) (xs ys : Word) : Type 0 where
  pub left : map (formula_value at) xs ≡ digits_low_first w x
  pub right : map (formula_value at) ys ≡ digits_low_first w y

by_position_value : (at : Levels) (w x y : ℕ) (xs ys : Word) → AreWords at w x y xs ys → (make : Formula → Formula → Made Formula) (f : Bool → Bool → Bool) → ((p q : Formula) → formula_value at (make p q).what ≡ f (formula_value at p) (formula_value at q)) → map (formula_value at) (word_by_position make xs ys).what ≡ digits_low_first w (numbers.by_position f w x y)
by_position_value at w x y xs ys are make f law =
    position_value at make f law xs ys ∙ ap₂ (λ a b. zipped f a b) are.left are.right ∙ zipped_digits f w x y

sum_value : (at : Levels) (w x y : ℕ) (xs ys : Word) → AreWords at w x y xs ys → map (formula_value at) (sum_bits xs ys (Const false)).what ≡ digits_low_first w ((x + y) % 2 ^ w)
sum_value at w x y xs ys are =
    added_value at xs ys (Const false)
    ∙ ap₂ (λ a b. added a b false) are.left are.right
    ∙ digits_of_sum w x y false
    ∙ ap (λ m. digits_low_first w m) plain
    ∙ sym (digits_mod w (x + y))
  where
    plain : x + y + 0 ≡ x + y
    plain = omega arith

pub zeros_value : (at : Levels) (w x : ℕ) (xs : Word) → map (formula_value at) xs ≡ digits_low_first w x → map (formula_value at) (map (λ f. Const false) xs) ≡ digits_low_first w 0
zeros_value at zero x [] e = refl
zeros_value at zero x (y ∷ xs) e = absurd (longer (ap length e))
  where
    longer : suc (length (map (formula_value at) xs)) ≡ zero → ⊥
    longer p = omega arith
zeros_value at (suc w) x [] e = absurd (shorter (ap length e))
  where
    shorter : zero ≡ suc (length (digits_low_first w (x / 2))) → ⊥
    shorter p = omega arith
zeros_value at (suc w) x (y ∷ xs) e = ap (λ bs. false ∷ bs) (zeros_value at w (x / 2) xs (ap (λ bs. drop_first bs) e))
  where
    drop_first : List Bool → List Bool
    drop_first [] = []
    drop_first (b ∷ bs) = bs

-- operators
pub operator_bits_value : (at : Levels) (sign : Binary) (w x y : ℕ) (xs ys : Word) → y < 2 ^ w → AreWords at w x y xs ys → map (formula_value at) (operator_bits sign xs ys).what ≡ digits_low_first w (computes sign w x y)
operator_bits_value at binary.And w x y xs ys small are = by_position_value at w x y xs ys are make_and (λ a b. a && b) (and_value at)
operator_bits_value at binary.Or w x y xs ys small are = by_position_value at w x y xs ys are make_or (λ a b. a || b) (or_value at)
operator_bits_value at binary.Xor w x y xs ys small are = by_position_value at w x y xs ys are make_xor differ (xor_value at)
operator_bits_value at binary.Xnor w x y xs ys small are = by_position_value at w x y xs ys are (λ p q. make_xor p q >>= make_not) same_level (xnor_value at)
operator_bits_value at binary.Plus w x y xs ys small are = sum_value at w x y xs ys are
operator_bits_value at binary.Minus w x y xs ys small are = difference_value at w x y xs ys small are.left are.right
operator_bits_value at _ w x y xs ys small are = zeros_value at w x xs are.left
