-- Nodes that are valued turn by turn: after as many turns as there are nodes all are.
use Rattle.std.proofs.Common.{◌≡◌, ℕ, ◌+◌, ◌<◌, ◌≤◌, Bool, true, false, List, length, map, refl, sym, ap, ◌∙◌, subst, arith, inl, inr}
use Rattle.fitter.proofs.Common.{cases_lt, lt-ltb, Point, bits, is_on, IsPoint, Levels, levels_of, is_on-zero, length-bits, same_levels, complement_if, Table, Ranked, Netlist, Leaf, formula_value, leaf_value, names, plain_netlist, IsSoundNetlist, IsReadable, IsSoundFormula, IsValuedFor, IsValuedOfFor, value_same, is_valued_of, valued, valued_past, function_of_node, node_formula, AreNext, CanEvaluate}
use Rattle.pld_machine.proofs.OneRest.{levels_equal}
use Rattle.bit_expr.specs.declared.node.Leaf.TheVariants as leaf
use Rattle.fitter.proofs.CarriedPoints.{nodes_valued}
use Rattle.fitter.proofs.NodeRanks.{node_names_node, node_ranks, signal_ranks}
use Rattle.fitter.proofs.Reached.{node_is, nodes_count, one_sound}

pub can_evaluate : (t : Table) (net : Netlist) → IsSoundNetlist t net → CanEvaluate net
can_evaluate t net sound = record { ids = sound.nodes; few = subst (λ n. n ≤ 128) (nodes_count net) sound.sound.few_nodes }

-- the nodes of a low rank have their values of the valued point, and those past the last one are 0
pub record AreTurned (t : Table) (net : Netlist) (turns : ℕ) (start at : Point) : Type 0 where
  pub pins : at.pins ≡ start.pins
  pub q : at.q ≡ start.q
  pub low : (sound : IsSoundNetlist t net) (v : Levels) → IsValuedOfFor t (plain_netlist net) (levels_of start) v → (n : ℕ) → n < length net.nodes
      → (node_ranks t (plain_netlist net) sound.sound).rank n < turns → is_on (bits 128 at.nodes) n ≡ is_on v.nodes n
  pub past : (n : ℕ) → length net.nodes ≤ n → n < 128 → is_on (bits 128 at.nodes) n ≡ false

pub first_turn : (t : Table) (net : Netlist) (start : Point) → start.nodes ≡ 0 → AreTurned t net 0 start start
first_turn t net start zero = record {
  pins = refl;
  q = refl;
  low = λ sound v of n within low. absurd (omega (arith, low));
  past = λ n out small. rw zero (is_on-zero 128 n small);
}

pub next_turn : (t : Table) (net : Netlist) (turns : ℕ) (start at next : Point) → AreTurned t net turns start at → next.pins ≡ at.pins → next.q ≡ at.q
    → AreNext net (levels_of at) (bits 128 next.nodes) → AreTurned t net (turns + 1) start next
next_turn t net turns start at next so_far pins q step = record {
  pins = pins ∙ so_far.pins;
  q = q ∙ so_far.q;
  low = λ sound v of n within low. step.each n within ∙ value sound v of n within low;
  past = step.past;
}
  where
    value : (sound : IsSoundNetlist t net) (v : Levels) → IsValuedOfFor t (plain_netlist net) (levels_of start) v → (n : ℕ) → n < length net.nodes
        → (node_ranks t (plain_netlist net) sound.sound).rank n < turns + 1
        → complement_if (function_of_node net n).complement (formula_value (levels_of at) (node_formula net n)) ≡ is_on v.nodes n
    value sound v of n within low =
        ap (complement_if (function_of_node net n).complement) (value_same (node_formula net n) (levels_of at) v by_leaf)
        ∙ sym (nodes_valued t net sound v of.is_valued n within)
      where
        ranks : Ranked (length (plain_netlist net).nodes) (node_names_node (plain_netlist net))
        ranks = node_ranks t (plain_netlist net) sound.sound

        by_leaf : (l : Leaf) → names (node_formula net n) l ≡ true → leaf_value (levels_of at) l ≡ leaf_value v l
        by_leaf (leaf.Pin p) named = ap (λ m. is_on (bits 32 m) p) so_far.pins ∙ ap (λ xs. is_on xs p) (sym of.pins)
        by_leaf (leaf.Q c) named = ap (λ m. is_on (bits 32 m) c) so_far.q ∙ ap (λ xs. is_on xs c) (sym of.q)
        by_leaf (leaf.Node m) named =
            let count = nodes_count net in
            let m_in : m < length net.nodes = subst (λ k. m < k) count (one_sound t net sound n within (leaf.Node m) named) in
            let falls = (node_ranks t (plain_netlist net) sound.sound).falls n m (subst (λ k. n < k) (sym count) within) (subst (λ k. m < k) (sym count) m_in)
            (ap (λ f. names f.one (leaf.Node m)) (node_is net n within) ∙ named) in
            so_far.low sound v of m m_in (omega (arith, falls, low))

start_point : (p : Point) → IsPoint (levels_of p)
start_point p = record { pins = length-bits 32 p.pins; q = length-bits 32 p.q; nodes = length-bits 128 p.nodes }

pub last_turn : (t : Table) (net : Netlist) → IsSoundNetlist t net → (turns : ℕ) (start at : Point) → length net.nodes ≤ turns → AreTurned t net turns start at
    → IsValuedFor t (plain_netlist net) (levels_of at)
last_turn t net sound turns start at done turned =
    let all = signal_ranks t (plain_netlist net) sound.sound in
    let v : Levels = valued t (plain_netlist net) sound.sound all (levels_of start) in
    let of : IsValuedOfFor t (plain_netlist net) (levels_of start) v = is_valued_of t (plain_netlist net) sound.sound all (levels_of start) (start_point start) in
    let same : v ≡ levels_of at =
    levels_equal v (levels_of at) (of.pins ∙ ap (bits 32) (sym turned.pins)) (of.q ∙ ap (bits 32) (sym turned.q))
    (same_levels v.nodes (bits 128 at.nodes) (of.is_valued.is_point.nodes ∙ sym (length-bits 128 at.nodes)) (λ n low. by_node v of n (subst (λ k. n < k) of.is_valued.is_point.nodes low))) in
    subst (IsValuedFor t (plain_netlist net)) same of.is_valued
  where
    by_node : (v : Levels) → IsValuedOfFor t (plain_netlist net) (levels_of start) v → (n : ℕ) → n < 128 → is_on v.nodes n ≡ is_on (bits 128 at.nodes) n
    by_node v of n low =
        elim (cases_lt n (length net.nodes)) [
          | inl within ↦
              let ranks = node_ranks t (plain_netlist net) sound.sound in
              let below = ranks.below n (subst (λ k. n < k) (sym (nodes_count net)) within) in
              let few = ranks.few in
              sym (turned.low sound v of n within (omega (arith, below, few, nodes_count net, done)))
          | inr out ↦ valued_past t (plain_netlist net) v of.is_valued n (omega (arith, out, nodes_count net)) low ∙ sym (turned.past n out low)
        ]
