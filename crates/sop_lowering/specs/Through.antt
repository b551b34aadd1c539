-- What holds of every leaf that a formula reaches through nodes (this project's rule).
use Rattle.std.specs.Prelude.{ℕ, zero, suc, ◌<◌, length}
use Rattle.sop_lowering.specs.Prelude.{Netlist, Leaf, arena, Formula, Const, Read, Not, And, Or, Xor}
use Rattle.bit_expr.specs.declared.node.Leaf.TheVariants as leaf
use Rattle.sop_lowering.specs.Written.{function_of_node, node_formula}

-- it holds of every leaf of the formula
abbrev pub EachLeaf : (Leaf → Type 0) → Formula → Type 0
EachLeaf P (Const level) = Unit {0}
EachLeaf P (Read l) = P l
EachLeaf P (Not f) = EachLeaf P f
EachLeaf P (And f g) = EachLeaf P f × EachLeaf P g
EachLeaf P (Or f g) = EachLeaf P f × EachLeaf P g
EachLeaf P (Xor f g) = EachLeaf P f × EachLeaf P g

-- it holds of a pin or a Q; what holds of a node is given
abbrev pub OfLeaf : (Leaf → Type 0) → (ℕ → Type 0) → Leaf → Type 0
OfLeaf P nodes (leaf.Pin p) = P (leaf.Pin p)
OfLeaf P nodes (leaf.Q c) = P (leaf.Q c)
OfLeaf P nodes (leaf.Node n) = nodes n

-- the node is one of the list, its function lies in the arena, and it holds of every pin and Q that this reaches,
-- through at most so many nodes
abbrev pub ReachesThrough : Netlist → (Leaf → Type 0) → ℕ → ℕ → Type 0
ReachesThrough net P zero n = ⊥
ReachesThrough net P (suc turns) n =
    (n < length net.nodes)
    × ((function_of_node net n).one.0 < length (arena net.exprs))
    × EachLeaf (OfLeaf P (ReachesThrough net P turns)) (node_formula net n)

-- it holds of every pin and Q that the formula reaches, and no chain of nodes returns
abbrev pub Reaches : Netlist → (Leaf → Type 0) → Formula → Type 0
Reaches net P f = EachLeaf (OfLeaf P (ReachesThrough net P (length net.nodes))) f
