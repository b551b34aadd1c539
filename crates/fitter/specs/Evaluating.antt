-- The point at which pairs have given levels, its nodes valued with any as 0 (this project's rule).
use Rattle.std.specs.Prelude.{◌≡◌, ℕ, ◌<◌, ◌≤◌, Bool, false, List, length, get_or, All}
use Rattle.fitter.specs.Prelude.{Point, bits, is_on, Levels, levels_of, complement_if, Netlist, ExprId, arena, Const, formula_value, IsFunctionIn, function_of_node, node_formula}
use Rattle.bit_expr.specs.declared.node.Node.{Node}

-- the values are those of the arena's formulas, from the first one on
abbrev pub HasValues : List Node → Levels → List Bool → Type 0
HasValues nodes at values =
    (k : ℕ) → k < length values → get_or values k false ≡ formula_value at (get_or (arena nodes) k (Const false))

-- the ids of the nodes' functions lie in the arena, and nodes are at most 128
pub record CanEvaluate (net : Netlist) : Type 0 where
  pub ids : All (IsFunctionIn (length (arena net.exprs))) net.nodes
  pub few : length net.nodes ≤ 128

-- the id is one of the arena, and no function of a node has a later one
pub record IsLastOf (net : Netlist) (last : ExprId) : Type 0 where
  pub inside : last.0 < length (arena net.exprs)
  pub each : (n : ℕ) → n < length net.nodes → (function_of_node net n).one.0 ≤ last.0

-- each node has the value of its function at the point, with any as 0, and past the last node are zeros
pub record AreNext (net : Netlist) (at : Levels) (nodes : List Bool) : Type 0 where
  pub each : (n : ℕ) → n < length net.nodes
      → is_on nodes n ≡ complement_if (function_of_node net n).complement (formula_value at (node_formula net n))
  pub past : (n : ℕ) → length net.nodes ≤ n → n < 128 → is_on nodes n ≡ false

-- pin or cell k has the level of its pair, as the list of pairs gives it
abbrev pub AreWired : (pairs : List ℕ) → (levels wired : ℕ) → Type 0
AreWired pairs levels wired =
    (k : ℕ) → k < 25 → get_or pairs k 0 < 32 → is_on (bits 32 wired) k ≡ is_on (bits 32 levels) (get_or pairs k 0)

-- the pins and Qs of the point have these levels
pub record IsWired (net : Netlist) (levels : ℕ) (at : Point) : Type 0 where
  pub pins : AreWired net.pair_of_pin levels at.pins
  pub q : AreWired net.pair_of_cell levels at.q
