-- Bit formulas as plain trees, their value at a point and the leaves that they name (this project's rule).
use Rattle.std.specs.Prelude.{Bool, false, not, ◌&&◌, ◌||◌, ◌==◌}
use Rattle.pld_base.specs.Bits.{is_on, same_level}
use Rattle.pld_base.specs.Points.{Levels}
use Rattle.bit_expr.specs.declared.node.Leaf.{Leaf}
use Rattle.bit_expr.specs.declared.node.Leaf.TheVariants as leaf

-- a constant, what a leaf carries, a complement, a product, a sum, a difference
pub data Formula : Type 0 where
  Const : (level : Bool) → Formula
  Read : (leaf : Leaf) → Formula
  Not : (f : Formula) → Formula
  And Or Xor : (f g : Formula) → Formula

-- what a leaf carries at a point: the level of a pin, the Q of a cell, the value of a node
abbrev pub leaf_value : Levels → Leaf → Bool
leaf_value at (leaf.Pin p) = is_on at.pins p
leaf_value at (leaf.Q c) = is_on at.q c
leaf_value at (leaf.Node n) = is_on at.nodes n

-- one of two levels, not both
abbrev pub differ : Bool → Bool → Bool
differ a b = not (same_level a b)

-- the value at a point
abbrev pub formula_value : Levels → Formula → Bool
formula_value at (Const level) = level
formula_value at (Read leaf) = leaf_value at leaf
formula_value at (Not f) = not (formula_value at f)
formula_value at (And f g) = formula_value at f && formula_value at g
formula_value at (Or f g) = formula_value at f || formula_value at g
formula_value at (Xor f g) = differ (formula_value at f) (formula_value at g)

-- two leaves are one
abbrev pub same_leaf : Leaf → Leaf → Bool
same_leaf (leaf.Pin p) (leaf.Pin r) = p == r
same_leaf (leaf.Q c) (leaf.Q d) = c == d
same_leaf (leaf.Node n) (leaf.Node m) = n == m
same_leaf _ _ = false

-- the formula names the leaf, whether or not its value depends on it
abbrev pub names : Formula → Leaf → Bool
names (Const level) l = false
names (Read leaf) l = same_leaf leaf l
names (Not f) l = names f l
names (And f g) l = names f l || names g l
names (Or f g) l = names f l || names g l
names (Xor f g) l = names f l || names g l
