-- The list of a node through as many turns as it needs, and that it is that of its function.
use Rattle.std.proofs.Common.{◌≡◌, ℕ, zero, suc, ◌+◌, ◌-◌, ◌*◌, ◌<◌, ◌≤◌, Bool, true, false, not, Some, length, slice_get, refl, sym, ◌∙◌, ap, arith}
use Rattle.sop_lowering.proofs.Common.{complement_if, get_or_from_slice_get, Function, Netlist, Leaf, arena, formula_at, Formula, Const, Read, Not, And, Or, Xor, Products, EachLeaf, OfLeaf, ReachesThrough, function_of_node, node_formula, leaf_list, list_of, node_list, written}
use Rattle.bit_expr.specs.declared.node.Leaf.TheVariants as leaf

-- lists of nodes that agree on all that the formula reads give it one list
same_list : (net : Netlist) (one other : ℕ → Bool → Products) (P : Leaf → Type 0) (nodes : ℕ → Type 0)
    → ((n : ℕ) (positive : Bool) → nodes n → one n positive ≡ other n positive)
    → (f : Formula) (positive : Bool) → EachLeaf (OfLeaf P nodes) f → list_of (leaf_list net one) f positive ≡ list_of (leaf_list net other) f positive
same_list net one other P nodes agree (Const level) positive each = refl
same_list net one other P nodes agree (Read (leaf.Pin p)) positive each = refl
same_list net one other P nodes agree (Read (leaf.Q c)) positive each = refl
same_list net one other P nodes agree (Read (leaf.Node n)) positive each = agree n positive each
same_list net one other P nodes agree (Not f) positive each = same_list net one other P nodes agree f (not positive) each
same_list net one other P nodes agree (And f g) true each =
    rw (same_list net one other P nodes agree f true each.0, same_list net one other P nodes agree g true each.1) refl
same_list net one other P nodes agree (And f g) false each =
    rw (same_list net one other P nodes agree f false each.0, same_list net one other P nodes agree g false each.1) refl
same_list net one other P nodes agree (Or f g) true each =
    rw (same_list net one other P nodes agree f true each.0, same_list net one other P nodes agree g true each.1) refl
same_list net one other P nodes agree (Or f g) false each =
    rw (same_list net one other P nodes agree f false each.0, same_list net one other P nodes agree g false each.1) refl
same_list net one other P nodes agree (Xor f g) true each =
    rw (same_list net one other P nodes agree f true each.0, same_list net one other P nodes agree f false each.0, same_list net one other P nodes agree g true each.1, same_list net one other P nodes agree g false each.1) refl
same_list net one other P nodes agree (Xor f g) false each =
    rw (same_list net one other P nodes agree f true each.0, same_list net one other P nodes agree f false each.0, same_list net one other P nodes agree g true each.1, same_list net one other P nodes agree g false each.1) refl

-- more turns than it needs change nothing
stays : (net : Netlist) (P : Leaf → Type 0) (turns more n : ℕ) (positive : Bool) → ReachesThrough net P turns n
    → node_list net (turns + more) n positive ≡ node_list net turns n positive
stays net P zero more n positive through = absurd through
stays net P (suc turns) more n positive through =
    let e : suc turns + more ≡ suc (turns + more) = omega arith in
    rw e (same_list net (node_list net (turns + more)) (node_list net turns) P (ReachesThrough net P turns)
    (λ m b below. stays net P turns more m b below) (node_formula net n) (complement_if (function_of_node net n).complement positive) through.2)

-- the list of a node is that of its function
pub node_written : (net : Netlist) (P : Leaf → Type 0) (turns n : ℕ) (positive : Bool) → turns ≤ length net.nodes → ReachesThrough net P turns n
    → written net (Read (leaf.Node n)) positive ≡ written net (node_formula net n) (complement_if (function_of_node net n).complement positive)
node_written net P turns n positive most through =
    let count = length net.nodes in
    let rest = count - turns in
    let e : turns + rest ≡ count = omega (arith, most) in
    let f : turns + suc rest ≡ suc count = omega (arith, most) in
    let now = stays net P turns rest n positive through in
    let later = stays net P turns (suc rest) n positive through in
    (rw (e) at now) ∙ sym (rw (f) at later)

-- what is reached through some turns is reached through more
each_more : (P : Leaf → Type 0) (few many : ℕ → Type 0) → ((n : ℕ) → few n → many n) → (f : Formula) → EachLeaf (OfLeaf P few) f → EachLeaf (OfLeaf P many) f
each_more P few many step (Const level) each = tt
each_more P few many step (Read (leaf.Pin p)) each = each
each_more P few many step (Read (leaf.Q c)) each = each
each_more P few many step (Read (leaf.Node n)) each = step n each
each_more P few many step (Not f) each = each_more P few many step f each
each_more P few many step (And f g) each = (each_more P few many step f each.0, each_more P few many step g each.1)
each_more P few many step (Or f g) each = (each_more P few many step f each.0, each_more P few many step g each.1)
each_more P few many step (Xor f g) each = (each_more P few many step f each.0, each_more P few many step g each.1)

through_more : (net : Netlist) (P : Leaf → Type 0) (turns more n : ℕ) → ReachesThrough net P turns n → ReachesThrough net P (turns + more) n
through_more net P zero more n through = absurd through
through_more net P (suc turns) more n through =
    let e : suc turns + more ≡ suc (turns + more) = omega arith in
    rw e (through.0, through.1, each_more P (ReachesThrough net P turns) (ReachesThrough net P (turns + more)) (λ m below. through_more net P turns more m below) (node_formula net n) through.2)

-- the function of a node that is reached, through one turn less
pub node_reaches : (net : Netlist) (P : Leaf → Type 0) (turns n : ℕ) → 0 < turns → ReachesThrough net P turns n
    → (n < length net.nodes) × ((function_of_node net n).one.0 < length (arena net.exprs)) × EachLeaf (OfLeaf P (ReachesThrough net P (turns - 1))) (node_formula net n)
node_reaches net P zero n some through = absurd through
node_reaches net P (suc turns) n some through = let e : suc turns - 1 ≡ turns = omega arith in rw e through

-- and through as many as there are nodes
pub node_reaches_all : (net : Netlist) (P : Leaf → Type 0) (turns n : ℕ) → turns ≤ length net.nodes → ReachesThrough net P turns n
    → (n < length net.nodes) × ((function_of_node net n).one.0 < length (arena net.exprs)) × EachLeaf (OfLeaf P (ReachesThrough net P (length net.nodes))) (node_formula net n)
node_reaches_all net P zero n most through = absurd through
node_reaches_all net P (suc turns) n most through =
    let rest = length net.nodes - turns in
    let e : turns + rest ≡ length net.nodes = omega (arith, most) in
    (through.0, through.1, each_more P (ReachesThrough net P turns) (ReachesThrough net P (length net.nodes)) (λ m below. rw (e) at (through_more net P turns rest m below)) (node_formula net n) through.2)

-- ---- the same if the function was looked up

function_there : (net : Netlist) (n : ℕ) (f : Function) → slice_get net.nodes n ≡ Some f → function_of_node net n ≡ f
function_there net n f there = get_or_from_slice_get net.nodes n f (record { one = record { 0 = 0 }; any = record { 0 = 0 }; complement = false }) there

-- what holds of a node's function
pub record HasFunction (net : Netlist) (P : Leaf → Type 0) (turns n : ℕ) (f : Function) : Type 0 where
  pub inside : f.one.0 < length (arena net.exprs)
  pub leaves : EachLeaf (OfLeaf P (ReachesThrough net P turns)) (formula_at (arena net.exprs) f.one)

pub function_reaches : (net : Netlist) (P : Leaf → Type 0) (turns n : ℕ) (f : Function) → slice_get net.nodes n ≡ Some f → 0 < turns
    → ReachesThrough net P turns n → HasFunction net P (turns - 1) n f
function_reaches net P turns n f there some through =
    let reach = node_reaches net P turns n some through in
    let same = function_there net n f there in
    record { inside = rw (← same) reach.1; leaves = rw (← same) reach.2 }

pub function_reaches_all : (net : Netlist) (P : Leaf → Type 0) (turns n : ℕ) (f : Function) → slice_get net.nodes n ≡ Some f → turns ≤ length net.nodes
    → ReachesThrough net P turns n → HasFunction net P (length net.nodes) n f
function_reaches_all net P turns n f there most through =
    let reach = node_reaches_all net P turns n most through in
    let same = function_there net n f there in
    record { inside = rw (← same) reach.1; leaves = rw (← same) reach.2 }

pub function_written : (net : Netlist) (P : Leaf → Type 0) (turns n : ℕ) (f : Function) (positive : Bool) → slice_get net.nodes n ≡ Some f
    → turns ≤ length net.nodes → ReachesThrough net P turns n
    → written net (Read (leaf.Node n)) positive ≡ written net (formula_at (arena net.exprs) f.one) (complement_if f.complement positive)
function_written net P turns n f positive there most through =
    node_written net P turns n positive most through
    ∙ ap (λ (g : Function). written net (formula_at (arena net.exprs) g.one) (complement_if g.complement positive)) (function_there net n f there)

pub node_inside : (net : Netlist) (P : Leaf → Type 0) (turns n : ℕ) → ReachesThrough net P turns n → n < length net.nodes
node_inside net P zero n through = absurd through
node_inside net P (suc turns) n through = through.0

pub turn_falls : (turns size id : ℕ) → 0 < turns → id < size → (turns - 1) * (3 * size + 3) + 3 * id + 2 < turns * (3 * size + 3)
turn_falls zero size id some low = absurd (omega (arith, some))
turn_falls (suc turns) size id some low =
    let e : suc turns - 1 ≡ turns = omega arith in
    let grown : suc turns * (3 * size + 3) ≡ turns * (3 * size + 3) + (3 * size + 3) = omega arith in
    rw e (rw grown (omega (arith, low)))
