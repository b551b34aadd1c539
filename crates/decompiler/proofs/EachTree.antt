-- What holds of the tree of each sum, if it holds of numbers and names, and of what is made of them.
use Rattle.std.proofs.Common.{ℕ, ◌<◌, Bool, true, false, List, [], ◌∷◌, sym, subst, arith}
use Rattle.decompiler.proofs.Common.{AllByRecursion, Place, Tree, ANumber, AName, AUnary, ABinary, PinLiteral, q_if, name_text, word, IsLiteral, IsNumber, IsProduct, IsSigned, IsSum, IsJoined}
use Rattle.abel_tree.specs.declared.words.Unary.TheVariants as unary
use Rattle.abel_tree.specs.declared.words.Binary.TheVariants as binary

-- where K holds of each literal
pub record HoldsBySteps (K : PinLiteral → Type 0) (P : Tree → Type 0) : Type 0 where
  pub number : (n : ℕ) (p : Place) → n < 2 → P (ANumber (record { value = n; place = p }))
  pub name : (l : PinLiteral) (p : Place) → K l → P (AName (word (name_text l.pin) p) (q_if l.of_q))
  pub complement : (p : Place) (t : Tree) → P t → P (AUnary unary.Not p t)
  pub both : (p : Place) (t u : Tree) → P t → P u → P (ABinary binary.And p t u)
  pub either : (p : Place) (t u : Tree) → P t → P u → P (ABinary binary.Or p t u)

module _ (K : PinLiteral → Type 0) (P : Tree → Type 0) (steps : HoldsBySteps K P) where
  numbered : (n : ℕ) (tree : Tree) → n < 2 → IsNumber n tree → P tree
  numbered n tree low is = subst P (sym is.1) (steps.number n is.0 low)

  pub literal_holds : (l : PinLiteral) (tree : Tree) → K l → IsLiteral l tree → P tree
  literal_holds l tree known is = signed l.negated tree is
    where
      signed : (negated : Bool) (tree : Tree) → IsSigned negated l.pin (q_if l.of_q) tree → P tree
      signed false tree is = subst P (sym is.1) (steps.name l is.0 known)
      signed true tree is =
          subst P (sym is.3) (steps.complement is.0 is.1 (subst P (sym is.2.1) (steps.name l is.2.0 known)))

  literals_hold : (ls : List PinLiteral) (left tree : Tree) → AllByRecursion K ls → P left → IsJoined binary.And IsLiteral left ls tree → P tree
  literals_hold [] left tree known here is = subst P (sym is) here
  literals_hold (l ∷ ls) left tree known here is =
      literals_hold ls (ABinary binary.And is.0 left is.1) tree known.1
      (steps.both is.0 left is.1 here (literal_holds l is.1 known.0 is.2)) is.3

  product_holds : (p : List PinLiteral) (tree : Tree) → AllByRecursion K p → IsProduct p tree → P tree
  product_holds [] tree known is = numbered 1 tree (omega arith) is
  product_holds (l ∷ ls) tree known is = literals_hold ls is.0 tree known.1 (literal_holds l is.0 known.0 is.1) is.2

  products_hold : (ps : List (List PinLiteral)) (left tree : Tree) → AllByRecursion (AllByRecursion K) ps → P left → IsJoined binary.Or IsProduct left ps tree → P tree
  products_hold [] left tree known here is = subst P (sym is) here
  products_hold (p ∷ ps) left tree known here is =
      products_hold ps (ABinary binary.Or is.0 left is.1) tree known.1
      (steps.either is.0 left is.1 here (product_holds p is.1 known.0 is.2)) is.3

  pub sum_holds : (ps : List (List PinLiteral)) (tree : Tree) → AllByRecursion (AllByRecursion K) ps → IsSum ps tree → P tree
  sum_holds [] tree known is = numbered 0 tree (omega arith) is
  sum_holds (p ∷ ps) tree known is = products_hold ps is.0 tree known.1 (product_holds p is.0 known.0 is.1) is.2
