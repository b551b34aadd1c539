-- The bit formulas of sums of products (this project's rule).
use Rattle.std.specs.Prelude.{◌≡◌, ℕ, true, false, if◌then◌else◌, None, List, [], ◌∷◌, fold}
use Rattle.decompiled.specs.Prelude.{AllByRecursion, Leaf, Formula, Const, Not, Tree, Context, formulas, ReadTerm, term_named, term_of}
use Rattle.bit_expr.specs.Folding.{make_and, make_or}
use Rattle.bit_expr.specs.Formulas.{Read}
use Rattle.abel_meaning.specs.Sources.{LeafRead, source_of}
use Rattle.decompiled.specs.declared.literal.PinLiteral.{PinLiteral}
use Rattle.decompiled.specs.SourceText.{q_if, name_text}
use Rattle.decompiled.specs.SourceTrees.{IsSum}

-- a literal's name is a signal, and reads this leaf
pub record ReadsLeaf (d : Context) (leaf_of : PinLiteral → Leaf) (l : PinLiteral) : Type 0 where
  pub signal : ℕ
  pub known : term_named d.known (name_text l.pin) ≡ ReadTerm signal None
  pub reads : source_of d signal (q_if l.of_q) ≡ LeafRead false (leaf_of l)

-- the leaf, or its complement
abbrev pub literal_formula : (PinLiteral → Leaf) → PinLiteral → Formula
literal_formula leaf_of l = if l.negated then Not (Read (leaf_of l)) else Read (leaf_of l)

-- literals joined from the left, folding as expressions do
abbrev pub product_formula : (PinLiteral → Leaf) → List PinLiteral → Formula
product_formula leaf_of [] = Const true
product_formula leaf_of (l ∷ ls) = fold (λ f k. (make_and f (literal_formula leaf_of k)).what) (literal_formula leaf_of l) ls

-- products joined from the left
abbrev pub sum_formula : (PinLiteral → Leaf) → List (List PinLiteral) → Formula
sum_formula leaf_of [] = Const false
sum_formula leaf_of (p ∷ ps) = fold (λ f q. (make_or f (product_formula leaf_of q)).what) (product_formula leaf_of p) ps

-- the tree of a sum is one bit, and that is its formula
abbrev pub SumsHaveFormulas : Type 0
SumsHaveFormulas =
    (d : Context) (leaf_of : PinLiteral → Leaf) (products : List (List PinLiteral)) (tree : Tree)
    → AllByRecursion (AllByRecursion (ReadsLeaf d leaf_of)) products → IsSum products tree
    → (formulas d).word 1 (term_of d.known tree) ≡ sum_formula leaf_of products ∷ []
