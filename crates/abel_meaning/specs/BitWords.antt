-- Words of bit formulas, position 0 first: sums, relations and operators (this project's rule: ripple carry and compare).
use Rattle.std.specs.Prelude.{true, false, List, [], ◌∷◌, map, reverse}
use Rattle.abel_meaning.specs.Prelude.{Made, free, ◌>>=◌, make_not, make_and, make_or, make_xor, Formula, Const, Binary, Unary}
use Rattle.abel_tree.specs.declared.words.Binary.TheVariants as binary
use Rattle.abel_tree.specs.declared.words.Unary.TheVariants as unary

-- the bits of an expression
abbrev pub Word : Type 0
Word = List Formula

-- an operator on each position
abbrev pub word_by_position : (Formula → Formula → Made Formula) → Word → Word → Made Word
word_by_position f [] ys = free []
word_by_position f (x ∷ xs) [] = free []
word_by_position f (x ∷ xs) (y ∷ ys) = f x y >>= λ z. word_by_position f xs ys >>= λ zs. free (z ∷ zs)

-- the complement of each position
abbrev pub each_not : Word → Made Word
each_not [] = free []
each_not (x ∷ xs) = make_not x >>= λ y. each_not xs >>= λ ys. free (y ∷ ys)

-- the sum of a position: x $ y $ carry
abbrev pub sum_bit : Formula → Formula → Formula → Made Formula
sum_bit x y carry = make_xor x y >>= λ p. make_xor p carry

-- the carry of a position: x & y # (x # y) & carry
abbrev pub next_carry : Formula → Formula → Formula → Made Formula
next_carry x y carry = make_and x y >>= λ p. make_or x y >>= λ q. make_and q carry >>= λ r. make_or p r

-- x + y + carry; no carry leaves the last position
abbrev pub sum_bits : Word → Word → (carry : Formula) → Made Word
sum_bits [] ys carry = free []
sum_bits (x ∷ xs) [] carry = free []
sum_bits (x ∷ []) (y ∷ ys) carry = sum_bit x y carry >>= λ s. free (s ∷ [])
sum_bits (x ∷ x1 ∷ xs) (y ∷ ys) carry =
    sum_bit x y carry >>= λ s. next_carry x y carry >>= λ c. sum_bits (x1 ∷ xs) ys c >>= λ ss. free (s ∷ ss)

-- x - y, as x + !y + 1
abbrev pub difference_bits : Word → Word → Made Word
difference_bits xs ys = each_not ys >>= λ ns. sum_bits xs ns (Const true)

-- x == y, from the leftmost position on, given what was found before
abbrev pub equal_bits : (found : Formula) → Word → Word → Made Formula
equal_bits found [] ys = free found
equal_bits found (x ∷ xs) [] = free found
equal_bits found (x ∷ xs) (y ∷ ys) =
    make_xor x y >>= λ p. make_not p >>= λ q. make_and found q >>= λ r. equal_bits r xs ys

-- less up to a position: !x & y # (!x # y) & less before
abbrev pub less_bit : Formula → Formula → Formula → Made Formula
less_bit x y less =
    make_not x >>= λ m. make_and m y >>= λ p.
    make_not x >>= λ n. make_or n y >>= λ q.
    make_and q less >>= λ r. make_or p r

-- x < y, from position 0 on
abbrev pub less_bits : (less : Formula) → Word → Word → Made Formula
less_bits less [] ys = free less
less_bits less (x ∷ xs) [] = free less
less_bits less (x ∷ xs) (y ∷ ys) = less_bit x y less >>= λ l. less_bits l xs ys

-- a relation of two words
abbrev pub relation_bit : Binary → Word → Word → Made Formula
relation_bit binary.Equal xs ys = equal_bits (Const true) (reverse xs) (reverse ys)
relation_bit binary.Unequal xs ys = equal_bits (Const true) (reverse xs) (reverse ys) >>= make_not
relation_bit binary.Less xs ys = less_bits (Const false) xs ys
relation_bit binary.Greater xs ys = less_bits (Const false) ys xs
relation_bit binary.LessEqual xs ys = less_bits (Const false) ys xs >>= make_not
relation_bit binary.GreaterEqual xs ys = less_bits (Const false) xs ys >>= make_not
relation_bit _ xs ys = free (Const false)

-- an operator on two words
abbrev pub operator_bits : Binary → Word → Word → Made Word
operator_bits binary.And xs ys = word_by_position make_and xs ys
operator_bits binary.Or xs ys = word_by_position make_or xs ys
operator_bits binary.Xor xs ys = word_by_position make_xor xs ys
operator_bits binary.Xnor xs ys = word_by_position (λ x y. make_xor x y >>= make_not) xs ys
operator_bits binary.Plus xs ys = sum_bits xs ys (Const false)
operator_bits binary.Minus xs ys = difference_bits xs ys
operator_bits _ xs ys = free (map (λ x. Const false) xs)

-- the complement of each position, and two's complement
abbrev pub unary_word : Unary → Word → Made Word
unary_word unary.Not xs = each_not xs
unary_word unary.Minus xs = difference_bits (map (λ x. Const false) xs) xs
