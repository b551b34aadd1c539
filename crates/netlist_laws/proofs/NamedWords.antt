-- The bits of operators over words that name certain leaves alone name those alone.
use Rattle.std.proofs.Common.{ℕ, zero, suc, Bool, true, false, List, [], ◌∷◌, map, reverse}
use Rattle.netlist_laws.proofs.Common.{Leaf, Formula, Const, Made, make_not, make_and, make_or, make_xor, resized, met_by, met_word, kept_bits, operator_word, binary_word, Shape, Number, Single, Set, Value, width_of, met_unknown, either_unknown, digits_low_first}
use Rattle.abel_tree.specs.declared.words.Binary.{Binary}
use Rattle.abel_tree.specs.declared.words.Binary.TheVariants as binary
use Rattle.abel_tree.specs.declared.words.Unary.{Unary}
use Rattle.abel_tree.specs.declared.words.Unary.TheVariants as unary
use Rattle.abel_meaning.specs.BitWords.{Word, word_by_position, each_not, sum_bit, next_carry, sum_bits, difference_bits, equal_bits, less_bit, less_bits, relation_bit, operator_bits, unary_word}
use Rattle.netlist_laws.proofs.NamedLeaves.{NamesOnly, EachNames, of_constant, of_not, of_and, of_or, of_xor, each_constant, each_copy, each_reversed}

module _ (P : Leaf → Type 0) where
  by_position : (op : Formula → Formula → Made Formula) → ((f g : Formula) → NamesOnly P f → NamesOnly P g → NamesOnly P (op f g).what) → (xs ys : Word) → EachNames P xs → EachNames P ys → EachNames P (word_by_position op xs ys).what
  by_position op of_op [] ys here there = tt
  by_position op of_op (x ∷ xs) [] here there = tt
  by_position op of_op (x ∷ xs) (y ∷ ys) here there = (of_op x y here.0 there.0, by_position op of_op xs ys here.1 there.1)

  of_each_not : (xs : Word) → EachNames P xs → EachNames P (each_not xs).what
  of_each_not [] here = tt
  of_each_not (x ∷ xs) here = (of_not P x here.0, of_each_not xs here.1)

  of_sum_bit : (x y c : Formula) → NamesOnly P x → NamesOnly P y → NamesOnly P c → NamesOnly P (sum_bit x y c).what
  of_sum_bit x y c here there carry = of_xor P (make_xor x y).what c (of_xor P x y here there) carry

  of_next_carry : (x y c : Formula) → NamesOnly P x → NamesOnly P y → NamesOnly P c → NamesOnly P (next_carry x y c).what
  of_next_carry x y c here there carry =
      of_or P (make_and x y).what (make_and (make_or x y).what c).what (of_and P x y here there)
      (of_and P (make_or x y).what c (of_or P x y here there) carry)

  of_sum : (xs ys : Word) (c : Formula) → EachNames P xs → EachNames P ys → NamesOnly P c → EachNames P (sum_bits xs ys c).what
  of_sum [] ys c here there carry = tt
  of_sum (x ∷ xs) [] c here there carry = tt
  of_sum (x ∷ []) (y ∷ ys) c here there carry = (of_sum_bit x y c here.0 there.0 carry, tt)
  of_sum (x ∷ x1 ∷ xs) (y ∷ ys) c here there carry =
      (of_sum_bit x y c here.0 there.0 carry, of_sum (x1 ∷ xs) ys (next_carry x y c).what here.1 there.1 (of_next_carry x y c here.0 there.0 carry))

  of_difference : (xs ys : Word) → EachNames P xs → EachNames P ys → EachNames P (difference_bits xs ys).what
  of_difference xs ys here there = of_sum xs (each_not ys).what (Const true) here (of_each_not ys there) (of_constant P true)

  of_equal : (f : Formula) (xs ys : Word) → NamesOnly P f → EachNames P xs → EachNames P ys → NamesOnly P (equal_bits f xs ys).what
  of_equal f [] ys found here there = found
  of_equal f (x ∷ xs) [] found here there = found
  of_equal f (x ∷ xs) (y ∷ ys) found here there =
      of_equal (make_and f (make_not (make_xor x y).what).what).what xs ys
      (of_and P f (make_not (make_xor x y).what).what found (of_not P (make_xor x y).what (of_xor P x y here.0 there.0))) here.1 there.1

  of_less_bit : (x y l : Formula) → NamesOnly P x → NamesOnly P y → NamesOnly P l → NamesOnly P (less_bit x y l).what
  of_less_bit x y l here there less =
      of_or P (make_and (make_not x).what y).what (make_and (make_or (make_not x).what y).what l).what
      (of_and P (make_not x).what y (of_not P x here) there)
      (of_and P (make_or (make_not x).what y).what l (of_or P (make_not x).what y (of_not P x here) there) less)

  of_less : (l : Formula) (xs ys : Word) → NamesOnly P l → EachNames P xs → EachNames P ys → NamesOnly P (less_bits l xs ys).what
  of_less l [] ys less here there = less
  of_less l (x ∷ xs) [] less here there = less
  of_less l (x ∷ xs) (y ∷ ys) less here there =
      of_less (less_bit x y l).what xs ys (of_less_bit x y l here.0 there.0 less) here.1 there.1

  of_relation : (sign : Binary) (xs ys : Word) → EachNames P xs → EachNames P ys → NamesOnly P (relation_bit sign xs ys).what
  of_relation binary.Equal xs ys here there = of_equal (Const true) (reverse xs) (reverse ys) (of_constant P true) (each_reversed P xs here) (each_reversed P ys there)
  of_relation binary.Unequal xs ys here there =
      of_not P (equal_bits (Const true) (reverse xs) (reverse ys)).what
      (of_equal (Const true) (reverse xs) (reverse ys) (of_constant P true) (each_reversed P xs here) (each_reversed P ys there))
  of_relation binary.Less xs ys here there = of_less (Const false) xs ys (of_constant P false) here there
  of_relation binary.Greater xs ys here there = of_less (Const false) ys xs (of_constant P false) there here
  of_relation binary.LessEqual xs ys here there = of_not P (less_bits (Const false) ys xs).what (of_less (Const false) ys xs (of_constant P false) there here)
  of_relation binary.GreaterEqual xs ys here there = of_not P (less_bits (Const false) xs ys).what (of_less (Const false) xs ys (of_constant P false) here there)
  of_relation _ xs ys here there = of_constant P false

  zeros : (xs : Word) → EachNames P (map (λ x. Const false) xs)
  zeros [] = tt
  zeros (x ∷ xs) = (of_constant P false, zeros xs)

  of_operator : (sign : Binary) (xs ys : Word) → EachNames P xs → EachNames P ys → EachNames P (operator_bits sign xs ys).what
  of_operator binary.And xs ys here there = by_position make_and (of_and P) xs ys here there
  of_operator binary.Or xs ys here there = by_position make_or (of_or P) xs ys here there
  of_operator binary.Xor xs ys here there = by_position make_xor (of_xor P) xs ys here there
  of_operator binary.Xnor xs ys here there = by_position _ (λ f g a b. of_not P (make_xor f g).what (of_xor P f g a b)) xs ys here there
  of_operator binary.Plus xs ys here there = of_sum xs ys (Const false) here there (of_constant P false)
  of_operator binary.Minus xs ys here there = of_difference xs ys here there
  of_operator _ xs ys here there = zeros xs

  pub of_unary : (sign : Unary) (xs : Word) → EachNames P xs → EachNames P (unary_word sign xs).what
  of_unary unary.Not xs here = of_each_not xs here
  of_unary unary.Minus xs here = of_difference (map (λ x. Const false) xs) xs (zeros xs) here

  -- ---- shapes

  of_resized : (w : ℕ) (xs : Word) → EachNames P xs → EachNames P (resized w xs)
  of_resized zero xs here = tt
  of_resized (suc w) [] here = (of_constant P false, of_resized w [] tt)
  of_resized (suc w) (x ∷ xs) here = (here.0, of_resized w xs here.1)

  of_met_by : (w : ℕ) (shape : Shape) (n : ℕ) (xs : Word) → EachNames P xs → EachNames P (met_by w shape n xs)
  of_met_by w Number n xs here = each_constant P (digits_low_first w n)
  of_met_by w Single n [] here = tt
  of_met_by w Single n (x ∷ xs) here = each_copy P w x here.0
  of_met_by w (Set v) n xs here = of_resized w xs here

  pub of_met : (w : ℕ) (v : Value) (xs : Word) → EachNames P xs → EachNames P (met_word w v xs)
  of_met w v xs here = of_met_by w v.shape v.number xs here

  of_kept : (dropped : List Bool) (xs : Word) → EachNames P xs → EachNames P (kept_bits dropped xs)
  of_kept [] xs here = tt
  of_kept (b ∷ bs) [] here = tt
  of_kept (true ∷ bs) (x ∷ xs) here = of_kept bs xs here.1
  of_kept (false ∷ bs) (x ∷ xs) here = (here.0, of_kept bs xs here.1)

  of_operator_word : (sign : Binary) (shape : Shape) (xs ys : Word) → EachNames P xs → EachNames P ys → EachNames P (operator_word sign shape xs ys).what
  of_operator_word sign Number xs ys here there = tt
  of_operator_word sign Single xs ys here there = of_operator sign xs ys here there
  of_operator_word sign (Set w) xs ys here there = of_operator sign xs ys here there

  pub of_binary : (relation : Bool) (sign : Binary) (shape : Shape) (v u : Value) (xs ys : Word) → EachNames P xs → EachNames P ys → EachNames P (binary_word relation sign shape v u xs ys).what
  of_binary true sign shape v u xs ys here there =
      let w = width_of shape in
      let dropped = either_unknown (met_unknown w v) (met_unknown w u) in (
        of_relation sign (kept_bits dropped (met_word w v xs)) (kept_bits dropped (met_word w u ys))
            (of_kept dropped (met_word w v xs) (of_met w v xs here)) (of_kept dropped (met_word w u ys) (of_met w u ys there)),
        tt,
      )
  of_binary false sign shape v u xs ys here there =
      of_operator_word sign shape (met_word (width_of shape) v xs) (met_word (width_of shape) u ys) (of_met (width_of shape) v xs here) (of_met (width_of shape) u ys there)
