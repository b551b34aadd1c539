-- Private: operators that go along two words, in one form (this project's rule).
use Rattle.std.specs.Prelude.{Bool, true, false, Option, None, Some, [], ◌∷◌}
use Rattle.expr_bits.specs.Prelude.{Made, free, ◌>>=◌, make_not, make_and, make_or, make_xor, Formula, Binary, Word, sum_bit, next_carry}
use Rattle.abel_tree.specs.declared.words.Binary.TheVariants as binary
use Rattle.expr_bits.specs.declared.steps.Step.{Step}
use Rattle.expr_bits.specs.declared.steps.Step.TheVariants as step
use Rattle.expr_bits.specs.Pieces.{same_of}

-- a sum's bit, and the carry that goes on unless it is the last position
abbrev pub sum_step : (last : Bool) → Formula → Formula → Formula → Made (Formula × Formula)
sum_step true x y carry = sum_bit x y carry >>= λ s. free (s, carry)
sum_step false x y carry = sum_bit x y carry >>= λ s. next_carry x y carry >>= λ c. free (s, c)

-- one position, and what goes on to the next
abbrev pub step_by : Step → (last : Bool) → Formula → Formula → Formula → Made (Formula × Formula)
step_by step.Not last x y carry = make_not x >>= λ s. free (s, carry)
step_by step.And last x y carry = make_and x y >>= λ s. free (s, carry)
step_by step.Or last x y carry = make_or x y >>= λ s. free (s, carry)
step_by step.Xor last x y carry = make_xor x y >>= λ s. free (s, carry)
step_by step.Xnor last x y carry = same_of x y >>= λ s. free (s, carry)
step_by step.Sum last x y carry = sum_step last x y carry

abbrev pub is_last : Word → Bool
is_last [] = true
is_last (x ∷ xs) = false

-- all positions
abbrev pub along : Step → (carry : Formula) → Word → Word → Made Word
along g c [] ys = free []
along g c (x ∷ xs) [] = free []
along g c (x ∷ xs) (y ∷ ys) = step_by g (is_last xs) x y c >>= λ p. along g p.1 xs ys >>= λ us. free (p.0 ∷ us)

-- the step by which an operator goes along two words with nothing carried to the first position
abbrev pub step_of : Binary → Option Step
step_of binary.And = Some step.And
step_of binary.Or = Some step.Or
step_of binary.Xor = Some step.Xor
step_of binary.Xnor = Some step.Xnor
step_of binary.Plus = Some step.Sum
step_of _ = None
