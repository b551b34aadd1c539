-- The arena as the list of its formulas, what adding a node leaves, and when the limit is passed (this project's
-- rule).
use Rattle.std.specs.Prelude.{ℕ, ◌+◌, ◌<◌, ◌≡◌, Bool, true, false, List, [], ◌∷◌, ◌++◌, length, get_or, slice_get, Some, Result, Ok, Err}
use Rattle.pld_base.specs.Points.{Levels}
use Rattle.bit_expr.specs.declared.fault.ExprFault.{ExprFault}
use Rattle.bit_expr.specs.declared.fault.ExprFault.TheVariants as fault
use Rattle.bit_expr.specs.declared.node.ExprId.{ExprId}
use Rattle.bit_expr.specs.declared.node.Leaf.{Leaf}
use Rattle.bit_expr.specs.declared.node.Leaf.TheVariants as leaf
use Rattle.bit_expr.specs.declared.node.Node.{Node}
use Rattle.bit_expr.specs.declared.node.Node.TheVariants as node
use Rattle.bit_expr.specs.Folding.{Made, free, fresh, make_not, make_and, make_or, make_xor}
use Rattle.bit_expr.specs.Formulas.{Formula, Const, Read, Not, And, Or, Xor, formula_value}

-- ---- formulas by their ids

-- the constants, which are in every arena
abbrev pub constants : List Formula
constants = Const false ∷ Const true ∷ []

-- the formula of an id
abbrev pub formula_at : List Formula → ExprId → Formula
formula_at fs id = get_or fs id.0 (Const false)

-- a node's formula, its operands looked up
abbrev pub formula_of : List Formula → Node → Formula
formula_of fs (node.Const level) = Const level
formula_of fs (node.Leaf l) = Read l
formula_of fs (node.Not a) = Not (formula_at fs a)
formula_of fs (node.And a b) = And (formula_at fs a) (formula_at fs b)
formula_of fs (node.Or a b) = Or (formula_at fs a) (formula_at fs b)
formula_of fs (node.Xor a b) = Xor (formula_at fs a) (formula_at fs b)

-- formulas, and after them those of nodes that follow one another
abbrev pub formulas_from : List Formula → List Node → List Formula
formulas_from fs [] = fs
formulas_from fs (n ∷ nodes) = formulas_from (fs ++ formula_of fs n ∷ []) nodes

-- the formulas of an arena of these nodes, the constants first
unfoldable pub arena : List Node → List Formula
arena nodes = formulas_from constants nodes

-- ---- nodes that may be added

-- pins and cells are below 32, nodes below 128
abbrev pub IsLeaf : Leaf → Type 0
IsLeaf (leaf.Pin p) = p < 32
IsLeaf (leaf.Q c) = c < 32
IsLeaf (leaf.Node n) = n < 128

-- the ids of a node lie in an arena of that many formulas
abbrev pub LiesIn : ℕ → Node → Type 0
LiesIn count (node.Const level) = Unit {0}
LiesIn count (node.Leaf l) = IsLeaf l
LiesIn count (node.Not a) = a.0 < count
LiesIn count (node.And a b) = (a.0 < count) × (b.0 < count)
LiesIn count (node.Or a b) = (a.0 < count) × (b.0 < count)
LiesIn count (node.Xor a b) = (a.0 < count) × (b.0 < count)

-- what a node makes by the folding rules; a constant is there
abbrev pub folded : List Formula → Node → Made Formula
folded fs (node.Const level) = free (Const level)
folded fs (node.Leaf l) = fresh (Read l)
folded fs (node.Not a) = make_not (formula_at fs a)
folded fs (node.And a b) = make_and (formula_at fs a) (formula_at fs b)
folded fs (node.Or a b) = make_or (formula_at fs a) (formula_at fs b)
folded fs (node.Xor a b) = make_xor (formula_at fs a) (formula_at fs b)

-- a node's value by those of its operands
abbrev pub node_value : Levels → List Formula → Node → Bool
node_value at fs n = formula_value at (formula_of fs n)

-- ---- what adding leaves

-- the formulas that an arena may have: 262,144 and the two constants
abbrev pub MOST : ℕ
MOST = 262146

-- making so many nodes in an arena of that many formulas passes the limit
abbrev pub PassesLimit : (most count nodes : ℕ) → Type 0
PassesLimit most count nodes = (0 < nodes) × (most < count + nodes)

-- what was there is under its id, and so many nodes were added
pub record Grew (old new : List Formula) (nodes : ℕ) : Type 0 where
  pub keeps : (i : ℕ) (f : Formula) → slice_get old i ≡ Some f → slice_get new i ≡ Some f
  pub count : length new ≡ length old + nodes

-- the id has the formula that was made, with just its nodes, which do not pass the limit
pub record IsAdded (most : ℕ) (old new : List Formula) (id : ExprId) (m : Made Formula) : Type 0 where
  pub formula : slice_get new id.0 ≡ Some m.what
  pub grew : Grew old new m.nodes
  pub within : PassesLimit most (length old) m.nodes → ⊥

-- what adding leaves. NodeLimit is answered just if the limit would be passed; a refusal leaves the arena
-- unchanged
abbrev pub Adds : (most : ℕ) → (old new : List Node) → Result ExprId ExprFault → Made Formula → Type 0
Adds most old new (Ok id) m = IsAdded most (arena old) (arena new) id m
Adds most old new (Err fault.NodeLimit) m = (new ≡ old) × PassesLimit most (length (arena old)) m.nodes
Adds most old new (Err fault.OutOfMemory) m = new ≡ old
