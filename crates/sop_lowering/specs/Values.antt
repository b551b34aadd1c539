-- What written products are true at (this project's rule).
use Rattle.std.specs.Prelude.{◌≡◌, ℕ, ◌<◌, ◌≤◌, Bool, List, length, None, Some}
use Rattle.sop_lowering.specs.Prelude.{AllByRecursion, is_on, same_level, complement_if, Netlist, Leaf, Formula, formula_value, leaf_value, AsksBelow, covers}
use Rattle.pld_base.specs.Points.{Levels}
use Rattle.sop_lowering.specs.Products.{Products}
use Rattle.sop_lowering.specs.Through.{Reaches}
use Rattle.sop_lowering.specs.Written.{pair_of, function_of_node, node_formula, written}

-- each node of the netlist has its function's value with any as 0
abbrev pub AreNodesValued : Netlist → Levels → Type 0
AreNodesValued net at =
    (n : ℕ) → n < length net.nodes
    → is_on at.nodes n ≡ complement_if (function_of_node net n).complement (formula_value at (node_formula net n))

-- the levels of the pairs have the leaf's value at the place of its pair
abbrev pub CarriesLeaf : Netlist → Levels → (pairs : List Bool) → Leaf → Type 0
CarriesLeaf net at pairs l = (pair_of net l < length pairs) × (is_on pairs (pair_of net l) ≡ leaf_value at l)

-- at most 32 levels, which carry every pin and Q that the formula reaches at a point whose nodes are valued
pub record Carries (net : Netlist) (at : Levels) (pairs : List Bool) (f : Formula) : Type 0 where
  pub few : length pairs ≤ 32
  pub leaves : Reaches net (CarriesLeaf net at pairs) f
  pub nodes : AreNodesValued net at

-- if there is a list, its products ask no variable past the levels, and some product is true just if the value is 1
abbrev pub HasValue : Products → (pairs : List Bool) → Bool → Type 0
HasValue None pairs value = Unit {0}
HasValue (Some rows) pairs value = AllByRecursion (AsksBelow (length pairs)) rows × (covers rows pairs ≡ value)

-- the list of a formula in a polarity has the formula's value in that polarity
abbrev pub WrittenValues : Type 0
WrittenValues =
    (net : Netlist) (at : Levels) (pairs : List Bool) (f : Formula) (positive : Bool) → Carries net at pairs f
    → HasValue (written net f positive) pairs (same_level (formula_value at f) positive)
