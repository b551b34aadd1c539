-- The machine's operators on numbers of 32 bits are those by position.
use Rattle.std.proofs.Common.{◌≡◌, ℕ, zero, suc, ◌+◌, ◌-◌, ◌/◌, ◌%◌, ◌^◌, ◌<◌, ◌==◌, min, max, Bool, true, false, not, ◌&&◌, ◌||◌, List, [], ◌∷◌, map, length, bit_and, bit_or, refl, sym, ap, ap₂, ◌∙◌, arith}
use Rattle.set_expr.proofs.Common.{one_bit, number_with, zipped, by_position, digits_low_first}
use Rattle.std.specs.Int.{bit_at}
use Rattle.std.specs.Int.Bits.{bit_xor}
use Rattle.std.proofs.lemmas.Nat.Bits.{same_from_bits, bit_at_and, bit_at_or, bit_at_xor, bit_at_lowest, bit_at-suc}
use Rattle.std.proofs.Math.Bool.{not-not}
use Rattle.std.proofs.Math.Nat.{pow-succ'}
use Rattle.pld_base.specs.Bits.{same_level}
use Rattle.bit_expr.specs.Formulas.{differ}
use Rattle.abel_meaning.proofs.WordValues.{lowest_bit}
use Rattle.abel_meaning.proofs.DigitLaws.{complement_adds, length_digits, number_of_digits, length_zipped}

-- a law of bits holds of all truth values
each : (f : Bool → Bool → Bool) (bit : ℕ → ℕ → ℕ) → bit 1 1 ≡ one_bit (f true true) → bit 1 0 ≡ one_bit (f true false) → bit 0 1 ≡ one_bit (f false true) → bit 0 0 ≡ one_bit (f false false) → (a b : Bool) → bit (one_bit a) (one_bit b) ≡ one_bit (f a b)
each f bit p q r s true true = p
each f bit p q r s true false = q
each f bit p q r s false true = r
each f bit p q r s false false = s

-- an operator of the machine with its law by bits, and what it does of two truth values
op_by_position : (op : ℕ → ℕ → ℕ) (f : Bool → Bool → Bool) (bit : ℕ → ℕ → ℕ) → ((a b i : ℕ) → bit_at (op a b) i ≡ bit (bit_at a i) (bit_at b i)) → ((a b : Bool) → bit (one_bit a) (one_bit b) ≡ one_bit (f a b)) → op 0 0 ≡ 0 → (w x y : ℕ) → x < 2 ^ w → y < 2 ^ w → op x y ≡ by_position f w x y
op_by_position op f bit law least none zero x y p q =
    let no : x ≡ 0 = omega arith in
    let nor : y ≡ 0 = omega arith in
    ap₂ op no nor ∙ none
op_by_position op f bit law least none (suc w) x y p q =
    let d = pow-succ' 2 w in
    let rest : op x y / 2 ≡ op (x / 2) (y / 2) = same_from_bits _ _ (λ i. sym (bit_at-suc (op x y) i) ∙ (law x y (suc i) ∙ (ap₂ bit (bit_at-suc x i) (bit_at-suc y i) ∙ sym (law (x / 2) (y / 2) i)))) in
    let low : op x y % 2 ≡ one_bit (f (x % 2 == 1) (y % 2 == 1)) =
    sym (bit_at_lowest (op x y))
    ∙ (law x y 0 ∙ (ap₂ bit (bit_at_lowest x ∙ sym (lowest_bit x)) (bit_at_lowest y ∙ sym (lowest_bit y)) ∙ least (x % 2 == 1) (y % 2 == 1))) in
    let more = op_by_position op f bit law least none w (x / 2) (y / 2) (omega arith) (omega arith) in
    omega (arith, rest, low, more)

pub and_by_position : (x y : ℕ) → x < 2 ^ 32 → y < 2 ^ 32 → bit_and x y ≡ by_position (λ a b. a && b) 32 x y
and_by_position = op_by_position bit_and (λ a b. a && b) min bit_at_and (each (λ a b. a && b) min refl refl refl refl) refl 32

pub or_by_position : (x y : ℕ) → x < 2 ^ 32 → y < 2 ^ 32 → bit_or x y ≡ by_position (λ a b. a || b) 32 x y
or_by_position = op_by_position bit_or (λ a b. a || b) max bit_at_or (each (λ a b. a || b) max refl refl refl refl) refl 32

pub xor_by_position : (x y : ℕ) → x < 2 ^ 32 → y < 2 ^ 32 → bit_xor x y ≡ by_position differ 32 x y
xor_by_position = op_by_position bit_xor differ (λ a b. (a + b) % 2) bit_at_xor (each differ (λ a b. (a + b) % 2) refl refl refl refl) refl 32

complemented : (xs ys : List Bool) → zipped same_level xs ys ≡ map not (zipped differ xs ys)
complemented [] ys = refl
complemented (x ∷ xs) [] = refl
complemented (x ∷ xs) (y ∷ ys) = ap₂ (λ b bs. b ∷ bs) (sym (not-not (same_level x y))) (complemented xs ys)

complement : (bs : List Bool) → length bs ≡ 32 → 4294967295 - number_with bs ≡ number_with (map not bs)
complement bs width = let size : 2 ^ length bs ≡ 2 ^ 32 = ap (λ w. 2 ^ w) width in omega (arith, complement_adds bs, size)

pub not_by_position : (x : ℕ) → x < 2 ^ 32 → 4294967295 - x ≡ number_with (map not (digits_low_first 32 x))
not_by_position x p = ap (λ n. 4294967295 - n) (sym (number_of_digits 32 x p)) ∙ complement (digits_low_first 32 x) (length_digits 32 x)

pub xnor_by_position : (x y : ℕ) → x < 2 ^ 32 → y < 2 ^ 32 → 4294967295 - bit_xor x y ≡ by_position same_level 32 x y
xnor_by_position x y p q =
    let xs = digits_low_first 32 x in
    let ys = digits_low_first 32 y in
    ap (λ n. 4294967295 - n) (xor_by_position x y p q)
    ∙ (complement (zipped differ xs ys) (length_zipped differ xs ys (length_digits 32 x ∙ sym (length_digits 32 y)) ∙ length_digits 32 x)
    ∙ ap number_with (sym (complemented xs ys)))
