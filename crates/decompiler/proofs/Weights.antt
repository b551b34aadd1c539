-- How much the tree of a sum weighs.
use Rattle.std.proofs.Common.{◌≡◌, ℕ, ◌+◌, ◌*◌, ◌≤◌, Bool, true, false, Option, List, [], ◌∷◌, length, ap, arith}
use Rattle.decompiler.proofs.Common.{AllByRecursion, Extension, Tree, ABinary, PinLiteral, q_if, IsJoined, IsLiteral, IsNamed, IsNumber, IsProduct, IsSigned, IsSum}
use Rattle.abel_tree.specs.declared.words.Binary.TheVariants as binary
use Rattle.decompiler.proofs.OwnLines.{IsShortProduct}
use Rattle.decompiler.proofs.SmallBits.{weight}

number_weight : (n : ℕ) (tree : Tree) → IsNumber n tree → weight tree ≡ 0
number_weight n tree is = ap weight is.1

name_weight : (pin : ℕ) (e : Option Extension) (tree : Tree) → IsNamed pin e tree → weight tree ≡ 2
name_weight pin e tree is = ap weight is.1

literal_weight : (l : PinLiteral) (tree : Tree) → IsLiteral l tree → weight tree ≤ 3
literal_weight l tree is = signed l.negated is
  where
    signed : (negated : Bool) → IsSigned negated l.pin (q_if l.of_q) tree → weight tree ≤ 3
    signed false named = let w = name_weight l.pin (q_if l.of_q) tree named in omega (arith, w)
    signed true of =
        let w = name_weight l.pin (q_if l.of_q) of.1 of.2 in
        let whole : weight tree ≡ weight of.1 + 1 = ap weight of.3 in
        omega (arith, w, whole)

literals_weight : (ls : List PinLiteral) (left tree : Tree) → IsJoined binary.And IsLiteral left ls tree → weight tree ≤ weight left + 4 * length ls
literals_weight [] left tree is = let w : weight tree ≡ weight left = ap weight is in omega (arith, w)
literals_weight (l ∷ ls) left tree is =
    let one = literal_weight l is.1 is.2 in
    let later = literals_weight ls (ABinary binary.And is.0 left is.1) tree is.3 in
    omega (arith, one, later)

product_weight : (p : List PinLiteral) (tree : Tree) → IsProduct p tree → weight tree ≤ 4 * length p
product_weight [] tree is = let w = number_weight 1 tree is in omega (arith, w)
product_weight (l ∷ ls) tree is =
    let one = literal_weight l is.0 is.1 in
    let later = literals_weight ls is.0 tree is.2 in
    omega (arith, one, later)

products_weight : (ps : List (List PinLiteral)) (left tree : Tree) → AllByRecursion IsShortProduct ps → IsJoined binary.Or IsProduct left ps tree → weight tree ≤ weight left + 177 * length ps
products_weight [] left tree short is = let w : weight tree ≡ weight left = ap weight is in omega (arith, w)
products_weight (p ∷ ps) left tree short is =
    let one = product_weight p is.1 is.2 in
    let later = products_weight ps (ABinary binary.Or is.0 left is.1) tree short.1 is.3 in
    let low : length p ≤ 44 = short.0 in
    omega (arith, one, later, low)

pub sum_weight : (ps : List (List PinLiteral)) (tree : Tree) → AllByRecursion IsShortProduct ps → IsSum ps tree → weight tree ≤ 177 * length ps
sum_weight [] tree short is = let w = number_weight 0 tree is in omega (arith, w)
sum_weight (p ∷ ps) tree short is =
    let one = product_weight p is.0 is.1 in
    let later = products_weight ps is.0 tree short.1 is.2 in
    let low : length p ≤ 44 = short.0 in
    omega (arith, one, later, low)
