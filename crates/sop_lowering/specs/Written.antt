-- The written products of a bit in a polarity, nodes by their functions with any as 0 (this project's rule).
use Rattle.std.specs.Prelude.{ℕ, zero, suc, Bool, true, false, not, [], ◌∷◌, length, get_or, Some}
use Rattle.sop_lowering.specs.Prelude.{same_level, complement_if, Netlist, ExprId, Leaf, arena, formula_at, Formula, Const, Read, Not, And, Or, Xor, full_cube, literal_cube}
use Rattle.bit_expr.specs.declared.netlist.Function.{Function}
use Rattle.bit_expr.specs.declared.node.Leaf.TheVariants as leaf
use Rattle.sop_lowering.specs.Products.{Products, sum_of, product_of}

-- the pair of columns that carries a leaf; a node has none
abbrev pub pair_of : Netlist → Leaf → ℕ
pair_of net (leaf.Pin p) = get_or net.pair_of_pin p 0
pair_of net (leaf.Q c) = get_or net.pair_of_cell c 0
pair_of net (leaf.Node n) = 0

-- the function of a node, and the formula of its `one`
abbrev pub function_of_node : Netlist → ℕ → Function
function_of_node net n = get_or net.nodes n (record { one = record { 0 = 0 }; any = record { 0 = 0 }; complement = false })

abbrev pub node_formula : Netlist → ℕ → Formula
node_formula net n = formula_at (arena net.exprs) (function_of_node net n).one

-- the list of a constant: the product that asks nothing, or no product
abbrev pub constant_list : Bool → Products
constant_list true = Some (full_cube ∷ [])
constant_list false = Some []

-- the list of a leaf: its literal; that of a node is given
abbrev pub leaf_list : Netlist → (ℕ → Bool → Products) → Leaf → Bool → Products
leaf_list net nodes (leaf.Pin p) positive = Some (literal_cube (pair_of net (leaf.Pin p)) positive ∷ [])
leaf_list net nodes (leaf.Q c) positive = Some (literal_cube (pair_of net (leaf.Q c)) positive ∷ [])
leaf_list net nodes (leaf.Node n) positive = nodes n positive

-- the list of a formula in a polarity, by the lists of its leaves. The complement of a product is the sum of the
-- complements, and that of a sum their product; a difference is the sum of two products
abbrev pub list_of : (Leaf → Bool → Products) → Formula → Bool → Products
list_of leaves (Const level) positive = constant_list (same_level level positive)
list_of leaves (Read l) positive = leaves l positive
list_of leaves (Not f) positive = list_of leaves f (not positive)
list_of leaves (And f g) true = product_of (list_of leaves f true) (list_of leaves g true)
list_of leaves (And f g) false = sum_of (list_of leaves f false) (list_of leaves g false)
list_of leaves (Or f g) true = sum_of (list_of leaves f true) (list_of leaves g true)
list_of leaves (Or f g) false = product_of (list_of leaves f false) (list_of leaves g false)
list_of leaves (Xor f g) true =
    sum_of (product_of (list_of leaves f true) (list_of leaves g false)) (product_of (list_of leaves f false) (list_of leaves g true))
list_of leaves (Xor f g) false =
    sum_of (product_of (list_of leaves f true) (list_of leaves g true)) (product_of (list_of leaves f false) (list_of leaves g false))

-- the list of a node: that of its function, through so many nodes
abbrev pub node_list : Netlist → ℕ → ℕ → Bool → Products
node_list net zero n positive = Some []
node_list net (suc turns) n positive =
    list_of (leaf_list net (node_list net turns)) (node_formula net n) (complement_if (function_of_node net n).complement positive)

-- the list of a formula over the netlist: no chain of nodes is longer than there are nodes
abbrev pub written : Netlist → Formula → Bool → Products
written net f positive = list_of (leaf_list net (node_list net (length net.nodes))) f positive

-- that of a bit of the arena
abbrev pub bit_list : Netlist → ExprId → Bool → Products
bit_list net id positive = written net (formula_at (arena net.exprs) id) positive
