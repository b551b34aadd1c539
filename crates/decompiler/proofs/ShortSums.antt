-- A sum of products over pins and Qs has no more written products than it was written of.
use Rattle.std.proofs.Common.{ℕ, ◌+◌, ◌*◌, ◌≤◌, Bool, true, false, List, [], ◌∷◌, length, arith, mul-le-mul, fold, if◌then◌else◌}
use Rattle.decompiler.proofs.Common.{Leaf, make_and, make_or, Formula, Const, Read, Not, And, Or, EachLeaf, IsNoNode, StaysBelow, bound, PinLiteral, literal_formula, product_formula, sum_formula, ReadNoNode, SumsAreShort}
use Rattle.decompiler.proofs.ShortLists.{all_short}

-- a formula of pins and Qs that stays below the limit, with at most so many products
pub record HasFew (f : Formula) (n : ℕ) : Type 0 where
  pub leaves : EachLeaf IsNoNode f
  pub below : StaysBelow f true
  pub most : bound f true ≤ n

wider : (f : Formula) (m n : ℕ) → m ≤ n → HasFew f m → HasFew f n
wider f m n le a = record { leaves = a.leaves; below = a.below; most = omega (arith, a.most, le) }

-- ---- operators, folding or not

and_of : (f g : Formula) → HasFew f 1 → HasFew g 1 → HasFew (And f g) 1
and_of f g a b =
    let le : bound f true * bound g true ≤ 1 * 1 = mul-le-mul a.most b.most in
    record { leaves = (a.leaves, b.leaves); below = (a.below, b.below, omega (arith, le)); most = omega (arith, le) }

and_few : (f g : Formula) → HasFew f 1 → HasFew g 1 → HasFew (make_and f g).what 1
unfolding make_and
and_few (Const false) g a b = a
and_few (Const true) g a b = b
and_few f (Const false) a b = b
and_few f (Const true) a b = a
and_few f g a b = and_of f g a b

or_of : (f g : Formula) (m n : ℕ) → m + n ≤ 1024 → HasFew f m → HasFew g n → HasFew (Or f g) (m + n)
or_of f g m n low a b =
    record {
      leaves = (a.leaves, b.leaves);
      below = (a.below, b.below, omega (arith, a.most, b.most, low));
      most = omega (arith, a.most, b.most);
    }

or_few : (f g : Formula) (m n : ℕ) → m + n ≤ 1024 → HasFew f m → HasFew g n → HasFew (make_or f g).what (m + n)
unfolding make_or
or_few (Const true) g m n low a b = wider (Const true) m (m + n) (omega arith) a
or_few (Const false) g m n low a b = wider g n (m + n) (omega arith) b
or_few f (Const true) m n low a b = wider (Const true) n (m + n) (omega arith) b
or_few f (Const false) m n low a b = wider f m (m + n) (omega arith) a
or_few f g m n low a b = or_of f g m n low a b

-- ---- sums

module _ (leaf_of : PinLiteral → Leaf) (none : ReadNoNode leaf_of) where
  literal_few : (l : PinLiteral) → HasFew (literal_formula leaf_of l) 1
  literal_few l = signed l.negated
    where
      signed : (negated : Bool) → HasFew (if negated then Not (Read (leaf_of l)) else Read (leaf_of l)) 1
      signed true = record { leaves = none l; below = tt; most = omega arith }
      signed false = record { leaves = none l; below = tt; most = omega arith }

  literals_few : (ls : List PinLiteral) (f : Formula) → HasFew f 1 → HasFew (fold (λ g k. (make_and g (literal_formula leaf_of k)).what) f ls) 1
  literals_few [] f few = few
  literals_few (l ∷ ls) f few = literals_few ls (make_and f (literal_formula leaf_of l)).what (and_few f (literal_formula leaf_of l) few (literal_few l))

  product_few : (p : List PinLiteral) → HasFew (product_formula leaf_of p) 1
  product_few [] = record { leaves = tt; below = tt; most = omega arith }
  product_few (l ∷ ls) = literals_few ls (literal_formula leaf_of l) (literal_few l)

  products_few : (ps : List (List PinLiteral)) (f : Formula) (n : ℕ) → n + length ps ≤ 1024 → HasFew f n
      → HasFew (fold (λ g q. (make_or g (product_formula leaf_of q)).what) f ps) (n + length ps)
  products_few [] f n low few = wider f n (n + 0) (omega arith) few
  products_few (p ∷ ps) f n low few =
      let next : Formula = (make_or f (product_formula leaf_of p)).what in
      wider (fold (λ g q. (make_or g (product_formula leaf_of q)).what) next ps) (n + 1 + length ps) (n + length (p ∷ ps)) (omega arith)
      (products_few ps next (n + 1) (omega (arith, low)) (or_few f (product_formula leaf_of p) n 1 (omega (arith, low)) few (product_few p)))

  sum_few : (ps : List (List PinLiteral)) → length ps ≤ 1024 → HasFew (sum_formula leaf_of ps) (length ps)
  sum_few [] low = record { leaves = tt; below = tt; most = omega arith }
  sum_few (p ∷ ps) low =
      wider (sum_formula leaf_of (p ∷ ps)) (1 + length ps) (length (p ∷ ps)) (omega arith)
      (products_few ps (product_formula leaf_of p) 1 (omega (arith, low)) (product_few p))

pub short_sums : SumsAreShort
short_sums net leaf_of ps none low =
    let few = sum_few leaf_of none ps low in
    let list = all_short net (sum_formula leaf_of ps) true few.leaves few.below in
    (list.0, list.1, omega (arith, list.2, few.most))
