-- Whatever levels the pairs are to have, there is a point with valued nodes whose leaves have them.
use Rattle.std.proofs.Common.{◌≡◌, ℕ, ◌<◌, ◌≤◌, Bool, false, List, length, map, refl, sym, ap, ◌∙◌, subst, arith}
use Rattle.fitter.proofs.Common.{range_with_len, get_or-map-range_with_len, length-map-range_with_len, bits, is_on, IsPoint, Levels, length-bits, IsDevice, complement_if, Table, Netlist, arena, formula_at, Formula, formula_value, value_with_any_0, function_at, plain_netlist, IsSoundNetlist, IsReadable, IsSoundFormula, IsValuedFor, IsValuedOfFor, is_valued_of, valued, valued_node, AreNodesValued, Carries, CarriesLeaf, pair_of}
use Rattle.bit_expr.specs.declared.node.Leaf.TheVariants as leaf
use Rattle.fitter.proofs.LeafPairs.{pin_has, q_has}
use Rattle.fitter.proofs.NodeRanks.{signal_ranks}
use Rattle.fitter.proofs.Reached.{node_is, nodes_count, reaches}

-- the point whose pins and Qs have the levels of their pairs
abbrev pub wired : Netlist → List Bool → Levels
wired net pairs =
    record {
      pins = map (λ p. is_on pairs (pair_of net (leaf.Pin p))) (range_with_len 0 32);
      q = map (λ c. is_on pairs (pair_of net (leaf.Q c))) (range_with_len 0 32);
      nodes = bits 128 0;
    }

wired_point : (net : Netlist) (pairs : List Bool) → IsPoint (wired net pairs)
wired_point net pairs = record {
  pins = length-map-range_with_len (λ p. is_on pairs (pair_of net (leaf.Pin p))) 0 32;
  q = length-map-range_with_len (λ c. is_on pairs (pair_of net (leaf.Q c))) 0 32;
  nodes = length-bits 128 0;
}

-- the nodes of a valued point, as written lists take them
pub nodes_valued : (t : Table) (net : Netlist) → IsSoundNetlist t net → (at : Levels) → IsValuedFor t (plain_netlist net) at → AreNodesValued net at
nodes_valued t net sound at is n within =
    valued_node t (plain_netlist net) sound.sound at is n (subst (λ k. n < k) (sym (nodes_count net)) within)
    ∙ ap (λ f. value_with_any_0 (function_at at f)) (node_is net n within)

module _ (t : Table) (laws : IsDevice t) (net : Netlist) (sound : IsSoundNetlist t net) where
  -- a valued point at which the leaves that can be read have the levels of their pairs
  pub record Wires (pairs : List Bool) : Type 0 where
    pub at : Levels
    pub is_valued : IsValuedFor t (plain_netlist net) at
    pub carries : (f : Formula) → IsSoundFormula t (plain_netlist net) f → Carries net at pairs f

  -- so is one that has them at each leaf
  pub carries_all : (at : Levels) (pairs : List Bool) → length pairs ≡ length t.pairs → IsValuedFor t (plain_netlist net) at
      → ((p : ℕ) → IsReadable t (plain_netlist net) (leaf.Pin p) → is_on pairs (pair_of net (leaf.Pin p)) ≡ is_on at.pins p)
      → ((c : ℕ) → IsReadable t (plain_netlist net) (leaf.Q c) → is_on pairs (pair_of net (leaf.Q c)) ≡ is_on at.q c)
      → (f : Formula) → IsSoundFormula t (plain_netlist net) f → Carries net at pairs f
  carries_all at pairs long is pins qs f readable = record {
    few = omega (arith, long, laws.sizes.columns_even, laws.sizes.columns_high);
    leaves = reaches t net sound (CarriesLeaf net at pairs)
        (λ p r. (subst (λ n. pair_of net (leaf.Pin p) < n) (sym long) (pin_has t laws net sound p r).pair_below, pins p r))
        (λ c r. (subst (λ n. pair_of net (leaf.Q c) < n) (sym long) (q_has t laws net sound c r).pair_below, qs c r)) f readable;
    nodes = nodes_valued t net sound at is;
  }

  pub wires : (pairs : List Bool) → length pairs ≡ length t.pairs → Wires pairs
  wires pairs long =
      let ranks = signal_ranks t (plain_netlist net) sound.sound in
      let z = wired net pairs in
      let at : Levels = valued t (plain_netlist net) sound.sound ranks z in
      let of_z : IsValuedOfFor t (plain_netlist net) z at = is_valued_of t (plain_netlist net) sound.sound ranks z (wired_point net pairs) in
      record {
        at = at;
        is_valued = of_z.is_valued;
        carries = carries_all at pairs long of_z.is_valued
            (λ p r. let low = (pin_has t laws net sound p r).number_low in
            sym (ap (λ xs. is_on xs p) of_z.pins ∙ get_or-map-range_with_len (λ k. is_on pairs (pair_of net (leaf.Pin k))) 0 32 p p false (omega (arith, low)) (omega arith)))
            (λ c r. let low = (q_has t laws net sound c r).number_low in
            sym (ap (λ xs. is_on xs c) of_z.q ∙ get_or-map-range_with_len (λ k. is_on pairs (pair_of net (leaf.Q k))) 0 32 c c false (omega (arith, low)) (omega arith)));
      }
