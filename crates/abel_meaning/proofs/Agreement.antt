-- Formulas of terms follow the arithmetic at every point; so all contributions, as formulas, follow those at the point.
use Rattle.std.proofs.Common.{◌≡◌, ℕ, zero, suc, ◌+◌, ◌-◌, ◌*◌, ◌/◌, ◌%◌, ◌^◌, ◌<◌, Bool, true, false, ◌&&◌, ◌||◌, List, [], ◌∷◌, map, refl, sym, ap, ap₂, subst, ◌∙◌, arith, pow_pos}
use Rattle.abel_meaning.proofs.Common.{mod-lt, pow-succ', Levels, same_level, Binary, Shape, Number, Single, Set, width_of, member_width, meeting, Value, met_number, met, met_unknown, either_unknown, kept, digits_low_first, digits, one_bit, number_with, zipped, binary_by, operator_number, computes, computes_numbers, compares_kept, formula_value, differ, Word, met_by, kept_bits, relation_word, operator_word, binary_word}
use Rattle.abel_meaning.specs.Numbers as numbers
use Rattle.abel_tree.specs.declared.words.Binary.TheVariants as binary
use Rattle.abel_meaning.proofs.DigitLaws.{length_digits, number_small, length_zipped}
use Rattle.abel_meaning.proofs.RelationValues.{kept_digits, kept_value, kept_width, digits_kept}
use Rattle.abel_meaning.proofs.TermValues.{HasBits, met_value, one_digit, one_small}
use Rattle.abel_meaning.proofs.OperatorValues.{AreWords, operator_bits_value}
use Rattle.abel_meaning.proofs.RelationWords.{relation_value_of}

-- the value with another number
abbrev pub at_number : Value → ℕ → Value
at_number c n = record c { number = n }

-- a value at a point is the constant one except for its number, which the bits have
pub record Agrees (c v : Value) (bs : List Bool) : Type 0 where
  pub same : v ≡ at_number c v.number
  pub has : HasBits c.shape c.number v.number bs

-- what meets w bits is small
met_small : (w : ℕ) (s : Shape) (k n : ℕ) (bs : List Bool) → HasBits s k n bs → met_number w s n < 2 ^ w
met_small w Number k n bs has = mod-lt n (pow_pos w)
met_small w Single k n bs has = by_bit n has.0
  where
    by_bit : (m : ℕ) → m < 2 ^ 1 → m * (2 ^ w - 1) < 2 ^ w
    by_bit zero small = let some = pow_pos w in omega arith
    by_bit (suc zero) small = let some = pow_pos w in omega arith
    by_bit (suc (suc m)) small = absurd (omega arith)
met_small w (Set v) k n bs has = mod-lt n (pow_pos w)

-- two operands in w bits
words : (at : Levels) (w : ℕ) (s1 s2 : Shape) (k1 n1 k2 n2 : ℕ) (xs ys : Word) → HasBits s1 k1 n1 (map (formula_value at) xs) → HasBits s2 k2 n2 (map (formula_value at) ys) → AreWords at w (met_number w s1 n1) (met_number w s2 n2) (met_by w s1 k1 xs) (met_by w s2 k2 ys)
words at w s1 s2 k1 n1 k2 n2 xs ys p q =
    record { left = met_value at w s1 k1 n1 xs p; right = met_value at w s2 k2 n2 ys q }

-- kept positions of a small number are a small number
kept_zero : (bs : List Bool) → kept bs 0 ≡ 0
kept_zero [] = refl
kept_zero (true ∷ bs) = kept_zero bs
kept_zero (false ∷ bs) = let rest = kept_zero bs in omega arith

kept_small : (bs : List Bool) (w n : ℕ) → n < 2 ^ w → kept bs n < 2 ^ kept_width bs w
kept_small [] w n small = omega arith
kept_small (b ∷ bs) zero n small =
    let none : n ≡ 0 = omega arith in
    let e = ap (λ m. kept (b ∷ bs) m) none ∙ kept_zero (b ∷ bs) in
    omega arith
kept_small (true ∷ bs) (suc w) n small = kept_small bs w (n / 2) (let e = double w in omega arith)
  where
    double : (v : ℕ) → 2 ^ suc v ≡ 2 * 2 ^ v
    double v = pow-succ' 2 v
kept_small (false ∷ bs) (suc w) n small =
    let rest = kept_small bs w (n / 2) (let e = pow-succ' 2 w in omega arith) in
    let e = pow-succ' 2 (kept_width bs w) in
    omega arith

-- a relation
relation_agrees : (at : Levels) (sign : Binary) (w : ℕ) (dropped : List Bool) (x y : ℕ) (xs ys : Word) → x < 2 ^ w → y < 2 ^ w → AreWords at w x y xs ys → map (formula_value at) (relation_word sign w dropped xs ys).what ≡ digits_low_first 1 (one_bit (compares_kept sign dropped x y))
relation_agrees at sign w dropped x y xs ys low high are =
    ap (λ b. b ∷ [])
    (relation_value_of at sign (kept_width dropped w) (kept dropped x) (kept dropped y) (kept_bits dropped xs) (kept_bits dropped ys)
    (kept_small dropped w x low) (kept_small dropped w y high)
    (record {
      left = kept_value at dropped xs ∙ ap (λ bs. kept_digits dropped bs) are.left ∙ digits_kept dropped w x;
      right = kept_value at dropped ys ∙ ap (λ bs. kept_digits dropped bs) are.right ∙ digits_kept dropped w y;
    }))
    ∙ one_digit (compares_kept sign dropped x y)

-- a number by position is small
position_small : (f : Bool → Bool → Bool) (w x y : ℕ) → numbers.by_position f w x y < 2 ^ w
position_small f w x y =
    subst (λ n. numbers.by_position f w x y < 2 ^ n)
    (length_zipped f (digits_low_first w x) (digits_low_first w y) (length_digits w x ∙ sym (length_digits w y)) ∙ length_digits w x)
    (number_small (zipped f (digits_low_first w x) (digits_low_first w y)))

computes_small : (sign : Binary) (w x y : ℕ) → computes sign w x y < 2 ^ w
computes_small binary.Plus w x y = mod-lt (x + y) (pow_pos w)
computes_small binary.Minus w x y = mod-lt (x + (2 ^ w - y)) (pow_pos w)
computes_small binary.And w x y = position_small (λ a b. a && b) w x y
computes_small binary.Or w x y = position_small (λ a b. a || b) w x y
computes_small binary.Xor w x y = position_small differ w x y
computes_small binary.Xnor w x y = position_small same_level w x y
computes_small _ w x y = pow_pos w

-- an operator of the shape s; if it is a number, so were both operands
operator_has : (at : Levels) (sign : Binary) (s : Shape) (k1 k2 x y : ℕ) (xs ys : Word) → (s ≡ Number → (x ≡ k1) × (y ≡ k2)) → y < 2 ^ width_of s → AreWords at (width_of s) x y xs ys → HasBits s (operator_number sign s k1 k2) (operator_number sign s x y) (map (formula_value at) (operator_word sign s xs ys).what)
operator_has at sign Number k1 k2 x y xs ys same small are =
    ap₂ (λ a b. computes_numbers sign a b) (same refl).0 (same refl).1
operator_has at sign Single k1 k2 x y xs ys same small are =
    (computes_small sign 1 x y, operator_bits_value at sign 1 x y xs ys small are)
operator_has at sign (Set w) k1 k2 x y xs ys same small are =
    (computes_small sign w x y, operator_bits_value at sign w x y xs ys small are)

both_numbers : (s1 s2 : Shape) (k1 n1 k2 n2 : ℕ) (bs cs : List Bool) → HasBits s1 k1 n1 bs → HasBits s2 k2 n2 cs → meeting s1 s2 ≡ Number → (met_number 32 s1 n1 ≡ met_number 32 s1 k1) × (met_number 32 s2 n2 ≡ met_number 32 s2 k2)
both_numbers Number Number k1 n1 k2 n2 bs cs p q e = (ap (λ n. n % 2 ^ 32) p, ap (λ n. n % 2 ^ 32) q)
both_numbers Number Single k1 n1 k2 n2 bs cs p q e = absurd cc
both_numbers Number (Set w) k1 n1 k2 n2 bs cs p q e = absurd cc
both_numbers Single Number k1 n1 k2 n2 bs cs p q e = absurd cc
both_numbers Single Single k1 n1 k2 n2 bs cs p q e = absurd cc
both_numbers Single (Set w) k1 n1 k2 n2 bs cs p q e = absurd cc
both_numbers (Set v) s2 k1 n1 k2 n2 bs cs p q e = absurd cc

operator_agrees : (at : Levels) (sign : Binary) (s1 s2 : Shape) (k1 n1 k2 n2 : ℕ) (xs ys : Word) → HasBits s1 k1 n1 (map (formula_value at) xs) → HasBits s2 k2 n2 (map (formula_value at) ys) → HasBits (meeting s1 s2) (operator_number sign (meeting s1 s2) (met_number (width_of (meeting s1 s2)) s1 k1) (met_number (width_of (meeting s1 s2)) s2 k2)) (operator_number sign (meeting s1 s2) (met_number (width_of (meeting s1 s2)) s1 n1) (met_number (width_of (meeting s1 s2)) s2 n2)) (map (formula_value at) (operator_word sign (meeting s1 s2) (met_by (width_of (meeting s1 s2)) s1 k1 xs) (met_by (width_of (meeting s1 s2)) s2 k2 ys)).what)
operator_agrees at sign s1 s2 k1 n1 k2 n2 xs ys p q =
    operator_has at sign (meeting s1 s2) _ _ _ _ _ _
    (λ e. let both = both_numbers s1 s2 k1 n1 k2 n2 _ _ p q e in (
      ap (λ s. met_number (width_of s) s1 n1) e ∙ both.0 ∙ ap (λ s. met_number (width_of s) s1 k1) (sym e),
      ap (λ s. met_number (width_of s) s2 n2) e ∙ both.1 ∙ ap (λ s. met_number (width_of s) s2 k2) (sym e),
    ))
    (met_small (width_of (meeting s1 s2)) s2 k2 n2 _ q)
    (words at (width_of (meeting s1 s2)) s1 s2 k1 n1 k2 n2 xs ys p q)

-- an operator or a relation
pub binary_agrees : (at : Levels) (relation : Bool) (sign : Binary) (c1 c2 : Value) (n1 n2 : ℕ) (xs ys : Word) → HasBits c1.shape c1.number n1 (map (formula_value at) xs) → HasBits c2.shape c2.number n2 (map (formula_value at) ys) → Agrees (binary_by relation sign c1 c2) (binary_by relation sign (at_number c1 n1) (at_number c2 n2)) (map (formula_value at) (binary_word relation sign (meeting c1.shape c2.shape) c1 c2 xs ys).what)
binary_agrees at true sign c1 c2 n1 n2 xs ys p q =
    record {
      same = refl;
      has = (
        one_small _,
        relation_agrees at sign (width_of (meeting c1.shape c2.shape)) (either_unknown (met_unknown (width_of (meeting c1.shape c2.shape)) c1) (met_unknown (width_of (meeting c1.shape c2.shape)) c2))
            _ _ _ _ (met_small _ c1.shape c1.number n1 _ p) (met_small _ c2.shape c2.number n2 _ q)
            (words at _ c1.shape c2.shape c1.number n1 c2.number n2 xs ys p q),
      );
    }
binary_agrees at false sign c1 c2 n1 n2 xs ys p q =
    record { same = refl; has = operator_agrees at sign c1.shape c2.shape c1.number n1 c2.number n2 xs ys p q }
