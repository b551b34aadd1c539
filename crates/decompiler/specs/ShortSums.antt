-- The written list of a sum of products over pins and Qs (this project's rule).
use Rattle.std.specs.Prelude.{◌≤◌, true, List, length}
use Rattle.decompiler.specs.Prelude.{Netlist, Leaf, written, PinLiteral}
use Rattle.decompiler.specs.Bounds.{IsNoNode, IsShort}
use Rattle.decompiled.specs.SumFormulas.{sum_formula}

-- no literal reads a node
abbrev pub ReadNoNode : (PinLiteral → Leaf) → Type 0
ReadNoNode leaf_of = (l : PinLiteral) → IsNoNode (leaf_of l)

-- a sum has no more written products than it was written of
abbrev pub SumsAreShort : Type 0
SumsAreShort =
    (net : Netlist) (leaf_of : PinLiteral → Leaf) (products : List (List PinLiteral)) → ReadNoNode leaf_of → length products ≤ 1024
    → IsShort (written net (sum_formula leaf_of products) true) (length products)
