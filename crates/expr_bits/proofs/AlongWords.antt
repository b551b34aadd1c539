-- The operators of the language are those that go along two words, and how long the words are that they make.
use Rattle.std.proofs.Common.{◌≡◌, suc, ◌<◌, Bool, None, Some, List, [], ◌∷◌, length, map, true, false, refl, sym, ap, ◌∙◌, arith}
use Rattle.expr_bits.proofs.Common.{arena, formula_at, Made, free, ◌>>=◌, make_not, make_and, make_or, make_xor, Formula, Const, Node, arena_count, low_formula, Binary, Word, word_by_position, each_not, sum_bit, next_carry, sum_bits, relation_bit, operator_bits, Step, step_by, step_of, along, length-map, Unary, difference_bits, unary_word}
use Rattle.abel_tree.specs.declared.words.Binary.TheVariants as binary
use Rattle.expr_bits.specs.declared.steps.Step.TheVariants as step
use Rattle.expr_bits.proofs.Making.{made_is}
use Rattle.abel_tree.specs.declared.words.Unary.TheVariants as unary

abbrev carried : Formula → Formula → Made (Formula × Formula)
carried c s = free (s, c)

kept_nodes : (m : Made Formula) (c : Formula) → ◌≡◌ {A = Made (Formula × Formula)} (m >>= carried c) (record { what = (m.what, c); nodes = m.nodes })
kept_nodes m c = made_is _ _ refl (omega arith)

-- a step that carries nothing on
position_step : (g : Step) (f : Formula → Formula → Made Formula) (c : Formula) → ((last : Bool) (x y : Formula) → step_by g last x y c ≡ (f x y >>= carried c)) → (xs ys : Word) → along g c xs ys ≡ word_by_position f xs ys
position_step g f c by (x ∷ xs) (y ∷ ys) =
    ap (λ m. m >>= λ p. along g p.1 xs ys >>= λ us. free (p.0 ∷ us)) (by _ x y ∙ kept_nodes (f x y) c)
    ∙ ap (λ m. f x y >>= λ z. m >>= λ us. free (z ∷ us)) (position_step g f c by xs ys)
position_step g f c by _ _ = refl

pub not_along : (c : Formula) (xs : Word) → along step.Not c xs xs ≡ each_not xs
not_along c [] = refl
not_along c (x ∷ xs) =
    ap (λ m. m >>= λ p. along step.Not p.1 xs xs >>= λ us. free (p.0 ∷ us)) (kept_nodes (make_not x) c)
    ∙ ap (λ m. make_not x >>= λ z. m >>= λ us. free (z ∷ us)) (not_along c xs)

pub sum_along : (c : Formula) (xs ys : Word) → along step.Sum c xs ys ≡ sum_bits xs ys c
sum_along c [] ys = refl
sum_along c (x ∷ xs) [] = no_right c x xs
  where
    no_right : (c x : Formula) (xs : Word) → free [] ≡ sum_bits (x ∷ xs) [] c
    no_right c x [] = refl
    no_right c x (x1 ∷ xs) = refl
sum_along c (x ∷ []) (y ∷ ys) = made_is _ _ refl (omega arith)
sum_along c (x ∷ x1 ∷ xs) (y ∷ ys) =
    made_is _ _ refl (omega arith)
    ∙ ap (λ m. sum_bit x y c >>= λ s. next_carry x y c >>= λ d. record { what = m.what; nodes = m.nodes } >>= λ ss. free (s ∷ ss)) (sum_along (next_carry x y c).what (x1 ∷ xs) ys)

-- ---- the constants

pub zero_there : (ns : List Node) → 0 < length (arena ns)
zero_there ns = omega (arith, arena_count ns)

pub one_there : (ns : List Node) → 1 < length (arena ns)
one_there ns = omega (arith, arena_count ns)

-- ---- answers

pub zero_is : (ns : List Node) → formula_at (arena ns) (record { 0 = 0 }) ≡ Const false
zero_is ns = sym (low_formula ns 0 (omega arith))

pub one_is : (ns : List Node) → formula_at (arena ns) (record { 0 = 1 }) ≡ Const true
one_is ns = sym (low_formula ns 1 (omega arith))

pub length_not : (w : Word) → length (each_not w).what ≡ length w
length_not [] = refl
length_not (x ∷ w) = ap suc (length_not w)

pub no_step : (s : Binary) → (s ≡ binary.And → ⊥) → (s ≡ binary.Or → ⊥) → (s ≡ binary.Xor → ⊥) → (s ≡ binary.Xnor → ⊥) → (s ≡ binary.Plus → ⊥) → None ≡ step_of s
no_step binary.And a o x n p = absurd (a refl)
no_step binary.Or a o x n p = absurd (o refl)
no_step binary.Xor a o x n p = absurd (x refl)
no_step binary.Xnor a o x n p = absurd (n refl)
no_step binary.Plus a o x n p = absurd (p refl)
no_step _ a o x n p = refl

-- an operator goes along words by its step; what has none and is no difference makes zeros
pub operator_along : (s : Binary) (g : Step) (xs ys : Word) → Some g ≡ step_of s → along g (Const false) xs ys ≡ operator_bits s xs ys
operator_along binary.And g xs ys e = let is : g ≡ step.And = cc in ap (λ h. along h (Const false) xs ys) is ∙ position_step step.And make_and (Const false) (λ last x y. refl) xs ys
operator_along binary.Or g xs ys e = let is : g ≡ step.Or = cc in ap (λ h. along h (Const false) xs ys) is ∙ position_step step.Or make_or (Const false) (λ last x y. refl) xs ys
operator_along binary.Xor g xs ys e = let is : g ≡ step.Xor = cc in ap (λ h. along h (Const false) xs ys) is ∙ position_step step.Xor make_xor (Const false) (λ last x y. refl) xs ys
operator_along binary.Xnor g xs ys e = let is : g ≡ step.Xnor = cc in ap (λ h. along h (Const false) xs ys) is ∙ position_step step.Xnor (λ x y. make_xor x y >>= make_not) (Const false) (λ last x y. refl) xs ys
operator_along binary.Plus g xs ys e = let is : g ≡ step.Sum = cc in ap (λ h. along h (Const false) xs ys) is ∙ sum_along (Const false) xs ys
operator_along _ g xs ys e = absurd cc

pub no_operator : (s : Binary) (xs ys : Word) → None ≡ step_of s → (s ≡ binary.Minus → ⊥) → operator_bits s xs ys ≡ free (map (λ x. Const false) xs)
no_operator binary.And xs ys e m = absurd cc
no_operator binary.Or xs ys e m = absurd cc
no_operator binary.Xor xs ys e m = absurd cc
no_operator binary.Xnor xs ys e m = absurd cc
no_operator binary.Plus xs ys e m = absurd cc
no_operator binary.Minus xs ys e m = absurd (m refl)
no_operator _ xs ys e m = refl

pub no_relation : (s : Binary) (xs ys : Word) → (s ≡ binary.Equal → ⊥) → (s ≡ binary.Unequal → ⊥) → (s ≡ binary.Less → ⊥) → (s ≡ binary.LessEqual → ⊥) → (s ≡ binary.Greater → ⊥) → (s ≡ binary.GreaterEqual → ⊥) → relation_bit s xs ys ≡ free (Const false)
no_relation binary.Equal xs ys a b c d e f = absurd (a refl)
no_relation binary.Unequal xs ys a b c d e f = absurd (b refl)
no_relation binary.Less xs ys a b c d e f = absurd (c refl)
no_relation binary.LessEqual xs ys a b c d e f = absurd (d refl)
no_relation binary.Greater xs ys a b c d e f = absurd (e refl)
no_relation binary.GreaterEqual xs ys a b c d e f = absurd (f refl)
no_relation _ xs ys a b c d e f = refl

position_length : (f : Formula → Formula → Made Formula) (xs ys : Word) → length xs ≡ length ys → length (word_by_position f xs ys).what ≡ length xs
position_length f [] ys e = refl
position_length f (x ∷ xs) [] e = absurd (omega (arith, e))
position_length f (x ∷ xs) (y ∷ ys) e = ap suc (position_length f xs ys (omega (arith, e)))

sum_length : (xs ys : Word) (carry : Formula) → length xs ≡ length ys → length (sum_bits xs ys carry).what ≡ length xs
sum_length (x ∷ xs) [] carry e = absurd (omega (arith, e))
sum_length (x ∷ x1 ∷ xs) (y ∷ ys) carry e = ap suc (sum_length (x1 ∷ xs) ys (next_carry x y carry).what (omega (arith, e)))
sum_length _ _ carry e = refl

difference_length : (xs ys : Word) → length xs ≡ length ys → length (difference_bits xs ys).what ≡ length xs
difference_length xs ys e = sum_length xs (each_not ys).what (Const true) (e ∙ sym (length_not ys))

pub operator_length : (sign : Binary) (xs ys : Word) → length xs ≡ length ys → length (operator_bits sign xs ys).what ≡ length xs
operator_length binary.And xs ys e = position_length make_and xs ys e
operator_length binary.Or xs ys e = position_length make_or xs ys e
operator_length binary.Xor xs ys e = position_length make_xor xs ys e
operator_length binary.Xnor xs ys e = position_length (λ x y. make_xor x y >>= make_not) xs ys e
operator_length binary.Plus xs ys e = sum_length xs ys (Const false) e
operator_length binary.Minus xs ys e = difference_length xs ys e
operator_length _ xs ys e = length-map xs (λ x. Const false)

pub unary_length : (sign : Unary) (xs : Word) → length (unary_word sign xs).what ≡ length xs
unary_length unary.Not xs = length_not xs
unary_length unary.Minus xs = difference_length (map (λ x. Const false) xs) xs (length-map xs (λ x. Const false)) ∙ length-map xs (λ x. Const false)
