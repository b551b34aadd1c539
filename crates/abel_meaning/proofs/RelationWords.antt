-- A relation of two words has the value of the relation of their numbers.
use Rattle.std.proofs.Common.{◌≡◌, ℕ, zero, suc, ◌+◌, ◌/◌, ◌%◌, ◌^◌, ◌<◌, ◌≤◌, Bool, true, false, not, ◌&&◌, List, [], ◌∷◌, ◌++◌, map, length, reverse, refl, sym, ap, ap₂, subst, ◌∙◌, arith, ◌==◌, nat_lt, nat_le}
use Rattle.abel_meaning.proofs.Common.{and_parts, le-leb, leb-true, pow-succ', same_from_decides, Decides-eqb, Decides-ltb, reverse-append, length-reverse, map-append, Levels, Binary, digits_low_first, one_bit, compares, Const, formula_value, differ, Word, equal_bits, less_bits, relation_bit, not_value}
use Rattle.std.specs.Bool.{Decides}
use Rattle.abel_tree.specs.declared.words.Binary.TheVariants as binary
use Rattle.abel_meaning.proofs.WordValues.{lowest_bit}
use Rattle.abel_meaning.proofs.DigitLaws.{length_digits}
use Rattle.abel_meaning.proofs.RelationValues.{lesser, lesser_value, digits_less, agree, agree_value}
use Rattle.abel_meaning.proofs.OperatorValues.{AreWords}

pub map_reverse : {X Y : Type 0} (f : X → Y) (xs : List X) → map f (reverse xs) ≡ reverse (map f xs)
map_reverse f [] = refl
map_reverse f (x ∷ xs) =
    ap (λ ys. map f ys) (reverse-append (x ∷ []) xs)
    ∙ map-append f (reverse xs) (x ∷ [])
    ∙ ap (λ ys. ys ++ f x ∷ []) (map_reverse f xs)
    ∙ sym (reverse-append (f x ∷ []) (map f xs))

agree_last : (f : Bool) (xs ys : List Bool) (x y : Bool) → length xs ≡ length ys → agree f (xs ++ x ∷ []) (ys ++ y ∷ []) ≡ agree f xs ys && not (differ x y)
agree_last f [] [] x y e = refl
agree_last f [] (b ∷ ys) x y e = absurd (omega arith)
agree_last f (a ∷ xs) [] x y e = absurd (omega arith)
agree_last f (a ∷ xs) (b ∷ ys) x y e = agree_last (f && not (differ a b)) xs ys x y (omega arith)

abbrev all_same : List Bool → List Bool → Bool
all_same [] ys = true
all_same (x ∷ xs) [] = true
all_same (x ∷ xs) (y ∷ ys) = all_same xs ys && not (differ x y)

agree_reversed : (xs ys : List Bool) → length xs ≡ length ys → agree true (reverse xs) (reverse ys) ≡ all_same xs ys
agree_reversed [] [] e = refl
agree_reversed [] (y ∷ ys) e = absurd (omega arith)
agree_reversed (x ∷ xs) [] e = absurd (omega arith)
agree_reversed (x ∷ xs) (y ∷ ys) e =
    ap₂ (λ a b. agree true a b) (reverse-append (x ∷ []) xs) (reverse-append (y ∷ []) ys)
    ∙ agree_last true (reverse xs) (reverse ys) x y (length-reverse xs ∙ rest ∙ sym (length-reverse ys))
    ∙ ap (λ b. b && not (differ x y)) (agree_reversed xs ys rest)
  where
    rest : length xs ≡ length ys
    rest = omega arith

same_bits : (a b : Bool) → not (differ a b) ≡ true → a ≡ b
same_bits true true e = refl
same_bits true false e = absurd cc
same_bits false true e = absurd cc
same_bits false false e = refl

self_same : (a : Bool) → not (differ a a) ≡ true
self_same true = refl
self_same false = refl

digits_same : (w x y : ℕ) → x < 2 ^ w → y < 2 ^ w → all_same (digits_low_first w x) (digits_low_first w y) ≡ (x == y)
digits_same zero x y low high = same_from_decides {P = x ≡ y} true (x == y) ((λ e. omega arith), (λ e. refl)) (Decides-eqb x y)
digits_same (suc w) x y low high =
    ap (λ b. b && not (differ (x % 2 == 1) (y % 2 == 1))) (digits_same w (x / 2) (y / 2) (half x low) (half y high))
    ∙ same_from_decides {P = x ≡ y} ((x / 2 == y / 2) && not (differ (x % 2 == 1) (y % 2 == 1))) (x == y) (forth, back) (Decides-eqb x y)
  where
    half : (n : ℕ) → n < 2 ^ suc w → n / 2 < 2 ^ w
    half n small = let e = pow-succ' 2 w in omega arith

    forth : (x / 2 == y / 2) && not (differ (x % 2 == 1) (y % 2 == 1)) ≡ true → x ≡ y
    forth e =
        let parts = and_parts (x / 2 == y / 2) (not (differ (x % 2 == 1) (y % 2 == 1))) e in
        let high_part = (Decides-eqb (x / 2) (y / 2)).0 parts.0 in
        let low_part = sym (lowest_bit x) ∙ ap one_bit (same_bits (x % 2 == 1) (y % 2 == 1) parts.1) ∙ lowest_bit y in
        omega arith

    back : x ≡ y → (x / 2 == y / 2) && not (differ (x % 2 == 1) (y % 2 == 1)) ≡ true
    back e = subst (λ n. (x / 2 == n / 2) && not (differ (x % 2 == 1) (n % 2 == 1)) ≡ true) e itself
      where
        itself : (x / 2 == x / 2) && not (differ (x % 2 == 1) (x % 2 == 1)) ≡ true
        itself = ap₂ (λ a b. a && b) ((Decides-eqb (x / 2) (x / 2)).1 refl) (self_same (x % 2 == 1))

-- two words
less_words : (at : Levels) (w x y : ℕ) (xs ys : Word) → x < 2 ^ w → y < 2 ^ w → AreWords at w x y xs ys → formula_value at (less_bits (Const false) xs ys).what ≡ nat_lt x y
less_words at w x y xs ys low high are =
    lesser_value at (Const false) xs ys
    ∙ ap₂ (λ a b. lesser false a b) are.left are.right
    ∙ digits_less w x y false low high
    ∙ ap (λ n. nat_lt x n) plain
  where
    plain : y + 0 ≡ y
    plain = omega arith

equal_words : (at : Levels) (w x y : ℕ) (xs ys : Word) → x < 2 ^ w → y < 2 ^ w → AreWords at w x y xs ys → formula_value at (equal_bits (Const true) (reverse xs) (reverse ys)).what ≡ (x == y)
equal_words at w x y xs ys low high are =
    agree_value at (Const true) (reverse xs) (reverse ys)
    ∙ ap₂ (λ a b. agree true a b)
    (map_reverse (formula_value at) xs ∙ ap (λ bs. reverse bs) are.left)
    (map_reverse (formula_value at) ys ∙ ap (λ bs. reverse bs) are.right)
    ∙ agree_reversed (digits_low_first w x) (digits_low_first w y) (length_digits w x ∙ sym (length_digits w y))
    ∙ digits_same w x y low high

not_less : (x y : ℕ) → not (nat_lt x y) ≡ nat_le y x
not_less x y = same_from_decides {P = y ≤ x} (not (nat_lt x y)) (nat_le y x) (forth (nat_lt x y) (Decides-ltb x y), back (nat_lt x y) (Decides-ltb x y)) ((λ e. leb-true y x e), (λ le. le-leb y x le))
  where
    forth : (b : Bool) → Decides b (x < y) → not b ≡ true → y ≤ x
    forth true d e = absurd cc
    forth false d e = below (λ lt. no_truth (d.1 lt))
      where
        no_truth : false ≡ true → ⊥
        no_truth p = cc

        below : (x < y → ⊥) → y ≤ x
        below refused = omega arith

    back : (b : Bool) → Decides b (x < y) → y ≤ x → not b ≡ true
    back true d le = absurd (let lt = d.0 refl in omega arith)
    back false d le = refl

flipped : (at : Levels) (w x y : ℕ) (xs ys : Word) → AreWords at w x y xs ys → AreWords at w y x ys xs
flipped at w x y xs ys are = record { left = are.right; right = are.left }

pub relation_value_of : (at : Levels) (sign : Binary) (w x y : ℕ) (xs ys : Word) → x < 2 ^ w → y < 2 ^ w → AreWords at w x y xs ys → formula_value at (relation_bit sign xs ys).what ≡ compares sign x y
relation_value_of at binary.Equal w x y xs ys low high are = equal_words at w x y xs ys low high are
relation_value_of at binary.Unequal w x y xs ys low high are =
    not_value at (equal_bits (Const true) (reverse xs) (reverse ys)).what ∙ ap not (equal_words at w x y xs ys low high are)
relation_value_of at binary.Less w x y xs ys low high are = less_words at w x y xs ys low high are
relation_value_of at binary.Greater w x y xs ys low high are = less_words at w y x ys xs high low (flipped at w x y xs ys are)
relation_value_of at binary.LessEqual w x y xs ys low high are =
    not_value at (less_bits (Const false) ys xs).what ∙ ap not (less_words at w y x ys xs high low (flipped at w x y xs ys are)) ∙ not_less y x
relation_value_of at binary.GreaterEqual w x y xs ys low high are =
    not_value at (less_bits (Const false) xs ys).what ∙ ap not (less_words at w x y xs ys low high are) ∙ not_less x y
relation_value_of at _ w x y xs ys low high are = refl
