-- How many products the written list of a formula has at most (this project's rule; that a sum has the products of both, and
-- a product each of one with each of the other, is the distributive law of switching algebra).
use Rattle.std.specs.Prelude.{◌≡◌, ℕ, ◌+◌, ◌*◌, ◌≤◌, Bool, true, false, not, if◌then◌else◌, List, length, Some}
use Rattle.decompiler.specs.Prelude.{same_level, Netlist, Leaf, Formula, Const, Read, Not, And, Or, Xor, written}
use Rattle.bit_expr.specs.declared.node.Leaf.TheVariants as leaf
use Rattle.covers.specs.declared.cube.Cube.{Cube}
use Rattle.sop_lowering.specs.Products.{Products}
use Rattle.sop_lowering.specs.Through.{EachLeaf}

-- the most products that a formula has in a polarity: a constant that has the level is one product, and else none
abbrev pub bound : Formula → (positive : Bool) → ℕ
bound (Const level) positive = if same_level level positive then 1 else 0
bound (Read l) positive = 1
bound (Not f) positive = bound f (not positive)
bound (And f g) true = bound f true * bound g true
bound (And f g) false = bound f false + bound g false
bound (Or f g) true = bound f true + bound g true
bound (Or f g) false = bound f false * bound g false
bound (Xor f g) true = bound f true * bound g false + bound f false * bound g true
bound (Xor f g) false = bound f true * bound g true + bound f false * bound g false

-- there is a list, of at most so many products
abbrev pub IsShort : Products → ℕ → Type 0
IsShort p n = (rows : List Cube) × (p ≡ Some rows) × (length rows ≤ n)

abbrev pub IsNoNode : Leaf → Type 0
IsNoNode (leaf.Pin p) = Unit {0}
IsNoNode (leaf.Q c) = Unit {0}
IsNoNode (leaf.Node n) = ⊥

-- no part of the formula passes the limit of a list, and none is a difference
abbrev pub StaysBelow : Formula → (positive : Bool) → Type 0
StaysBelow (Const level) positive = Unit {0}
StaysBelow (Read l) positive = Unit {0}
StaysBelow (Not f) positive = StaysBelow f (not positive)
StaysBelow (And f g) positive = StaysBelow f positive × StaysBelow g positive × (bound (And f g) positive ≤ 1024)
StaysBelow (Or f g) positive = StaysBelow f positive × StaysBelow g positive × (bound (Or f g) positive ≤ 1024)
StaysBelow (Xor f g) positive = ⊥

-- a formula of pins and Qs whose parts stay within the limit has a written list, of no more products than its bound
abbrev pub WrittenListsAreShort : Type 0
WrittenListsAreShort =
    (net : Netlist) (f : Formula) (positive : Bool) → EachLeaf IsNoNode f → StaysBelow f positive
    → IsShort (written net f positive) (bound f positive)
