-- The bit formulas of a term have the value of its arithmetic, also if the term is refused.
use Rattle.std.proofs.Common.{◌≡◌, ℕ, zero, suc, ◌+◌, ◌-◌, ◌*◌, ◌%◌, ◌^◌, ◌<◌, Bool, true, false, not, List, [], ◌∷◌, map, length, replicate, get_or, refl, sym, ap, ap₂, ◌∙◌, arith, ◌==◌}
use Rattle.abel_meaning.proofs.Common.{Levels, Source, Zero, LeafRead, source_value, Shape, Number, Single, Set, met_number, digits_low_first, one_bit, number_with, Formula, Const, Read, formula_value, make_source, met_by, resized, Word, each_not, difference_bits, not_value}
use Rattle.abel_meaning.proofs.WordValues.{added, added_value, digits_of_sum, lowest_bit}
use Rattle.abel_meaning.proofs.DigitLaws.{digits_mod, digits_spread, digits_resized, resized_bits, length_digits, digits_of_number, number_of_digits, complement_adds}

-- the bits of a number of this shape: a number without a width has none of its own
abbrev pub HasBits : Shape → (constant number : ℕ) → List Bool → Type 0
HasBits Number k n bs = n ≡ k
HasBits Single k n bs = (n < 2 ^ 1) × (bs ≡ digits_low_first 1 n)
HasBits (Set w) k n bs = (n < 2 ^ w) × (bs ≡ digits_low_first w n)

constants_value : (at : Levels) (bs : List Bool) → map (formula_value at) (map Const bs) ≡ bs
constants_value at [] = refl
constants_value at (b ∷ bs) = ap (λ cs. b ∷ cs) (constants_value at bs)

replicate_value : (at : Levels) (w : ℕ) (x : Formula) → map (formula_value at) (replicate w x) ≡ replicate w (formula_value at x)
replicate_value at zero x = refl
replicate_value at (suc w) x = ap (λ bs. formula_value at x ∷ bs) (replicate_value at w x)

resized_value : (at : Levels) (w : ℕ) (xs : Word) → map (formula_value at) (resized w xs) ≡ resized_bits w (map (formula_value at) xs)
resized_value at zero xs = refl
resized_value at (suc w) [] = ap (λ bs. false ∷ bs) (resized_value at w [])
resized_value at (suc w) (x ∷ xs) = ap (λ bs. formula_value at x ∷ bs) (resized_value at w xs)

-- a word that meets w positions has the digits of the number that does
pub met_value : (at : Levels) (w : ℕ) (s : Shape) (k n : ℕ) (xs : Word) → HasBits s k n (map (formula_value at) xs) → map (formula_value at) (met_by w s k xs) ≡ digits_low_first w (met_number w s n)
met_value at w Number k n xs has =
    constants_value at (digits_low_first w k) ∙ ap (λ m. digits_low_first w m) (sym has) ∙ sym (digits_mod w n)
met_value at w Single k n [] has = absurd (empty (ap length has.1))
  where
    empty : zero ≡ suc zero → ⊥
    empty e = omega arith
met_value at w Single k n (x ∷ xs) has =
    replicate_value at w x ∙ ap (λ b. replicate w b) first
    ∙ sym (digits_spread w (n % 2 == 1)) ∙ ap (λ m. digits_low_first w (m * (2 ^ w - 1))) number
  where
    first : formula_value at x ≡ (n % 2 == 1)
    first = ap (λ bs. get_or bs 0 false) has.1

    number : one_bit (n % 2 == 1) ≡ n
    number = lowest_bit n ∙ (let small = has.0 in omega arith)
met_value at w (Set v) k n xs has =
    resized_value at w xs ∙ ap (λ bs. resized_bits w bs) has.1 ∙ digits_resized w v n has.0 ∙ sym (digits_mod w n)

-- what is read
pub source_formula : (at : Levels) (s : Source) → formula_value at (make_source s).what ≡ source_value at s
source_formula at Zero = refl
source_formula at (LeafRead false leaf) = refl
source_formula at (LeafRead true leaf) = not_value at (Read leaf)

pub one_digit : (b : Bool) → b ∷ [] ≡ digits_low_first 1 (one_bit b)
one_digit true = refl
one_digit false = refl

pub one_small : (b : Bool) → one_bit b < 2 ^ 1
one_small true = omega arith
one_small false = omega arith

-- the complement of each position
pub each_not_value : (at : Levels) (xs : Word) → map (formula_value at) (each_not xs).what ≡ map not (map (formula_value at) xs)
each_not_value at [] = refl
each_not_value at (x ∷ xs) = ap₂ (λ b bs. b ∷ bs) (not_value at x) (each_not_value at xs)

pub length_map : {X Y : Type 0} (f : X → Y) (xs : List X) → length (map f xs) ≡ length xs
length_map f [] = refl
length_map f (x ∷ xs) = ap suc (length_map f xs)

pub not_bits : (w n : ℕ) → map not (digits_low_first w n) ≡ digits_low_first w (number_with (map not (digits_low_first w n)))
not_bits w n =
    sym (digits_of_number (map not (digits_low_first w n)))
    ∙ ap (λ m. digits_low_first m (number_with (map not (digits_low_first w n)))) (length_map not (digits_low_first w n) ∙ length_digits w n)

-- x - y by adding the complement and 1
pub difference_value : (at : Levels) (w x y : ℕ) (xs ys : Word) → y < 2 ^ w → map (formula_value at) xs ≡ digits_low_first w x → map (formula_value at) ys ≡ digits_low_first w y → map (formula_value at) (difference_bits xs ys).what ≡ digits_low_first w ((x + (2 ^ w - y)) % 2 ^ w)
difference_value at w x y xs ys small p q =
    added_value at xs (each_not ys).what (Const true)
    ∙ ap₂ (λ a b. added_with a b) p (each_not_value at ys ∙ ap (λ bs. map not bs) q ∙ not_bits w y)
    ∙ digits_of_sum w x z true
    ∙ ap (λ m. digits_low_first w m) total
    ∙ sym (digits_mod w (x + (2 ^ w - y)))
  where
    z : ℕ
    z = number_with (map not (digits_low_first w y))

    added_with : List Bool → List Bool → List Bool
    added_with a b = added a b true

    total : x + z + 1 ≡ x + (2 ^ w - y)
    total =
        let sum = complement_adds (digits_low_first w y) in
        let width = length_digits w y in
        let same = number_of_digits w y small in
        let power : 2 ^ length (digits_low_first w y) ≡ 2 ^ w = ap (λ m. 2 ^ m) width in
        omega arith
