-- What holds of every leaf that can be read holds of all that a sound formula reaches.
use Rattle.std.proofs.Common.{◌≡◌, ℕ, zero, suc, ◌<◌, ◌≤◌, Bool, true, false, List, length, map, get_or, refl, sym, ap, ◌∙◌, subst, arith}
use Rattle.fitter.proofs.Common.{or_left, or_right, get_or-map, length-map, Table, Ranked, Function, Netlist, Leaf, arena, formula_at, Formula, Const, Read, Not, And, Or, Xor, names, no_function, node_at, plain_function, plain_netlist, IsSoundNetlist, IsReadable, IsSoundFormula, same_leaf-refl, function_of_node, node_formula}
use Rattle.bit_expr.specs.declared.node.Leaf.TheVariants as leaf
use Rattle.sop_lowering.specs.Through.{EachLeaf, OfLeaf, Reaches, ReachesThrough}
use Rattle.fitter.proofs.NodeRanks.{node_names_node, node_ranks}

pub each_leaf : (P : Leaf → Type 0) (f : Formula) → ((l : Leaf) → names f l ≡ true → P l) → EachLeaf P f
each_leaf P (Const level) all = tt
each_leaf P (Read l) all = all l (same_leaf-refl l)
each_leaf P (Not f) all = each_leaf P f all
each_leaf P (And f g) all =
    (each_leaf P f (λ l on. all l (or_left (names f l) (names g l) on)), each_leaf P g (λ l on. all l (or_right (names f l) (names g l) on)))
each_leaf P (Or f g) all =
    (each_leaf P f (λ l on. all l (or_left (names f l) (names g l) on)), each_leaf P g (λ l on. all l (or_right (names f l) (names g l) on)))
each_leaf P (Xor f g) all =
    (each_leaf P f (λ l on. all l (or_left (names f l) (names g l) on)), each_leaf P g (λ l on. all l (or_right (names f l) (names g l) on)))

-- ---- nodes over the arena

pub nodes_count : (net : Netlist) → length (plain_netlist net).nodes ≡ length net.nodes
nodes_count net = length-map net.nodes (plain_function (arena net.exprs))

abbrev no_id_function : Function
no_id_function = record { one = record { 0 = 0 }; any = record { 0 = 0 }; complement = false }

pub node_is : (net : Netlist) (n : ℕ) → n < length net.nodes → node_at (plain_netlist net) n ≡ plain_function (arena net.exprs) (function_of_node net n)
node_is net n within = get_or-map (plain_function (arena net.exprs)) net.nodes n no_id_function no_function within

-- the function of a node reads what can be read
pub one_sound : (t : Table) (net : Netlist) → IsSoundNetlist t net → (n : ℕ) → n < length net.nodes → IsSoundFormula t (plain_netlist net) (node_formula net n)
one_sound t net sound n within =
    subst (λ f. IsSoundFormula t (plain_netlist net) f) (ap (λ f. f.one) (node_is net n within))
    (sound.sound.nodes n no_function (subst (λ k. n < k) (sym (nodes_count net)) within)).one

module _ (t : Table) (net : Netlist) (sound : IsSoundNetlist t net) (P : Leaf → Type 0)
    (pins : (p : ℕ) → IsReadable t (plain_netlist net) (leaf.Pin p) → P (leaf.Pin p))
    (qs : (c : ℕ) → IsReadable t (plain_netlist net) (leaf.Q c) → P (leaf.Q c)) where
  of_leaves : (nodes : ℕ → Type 0) (f : Formula) → IsSoundFormula t (plain_netlist net) f
      → ((m : ℕ) → m < length net.nodes → names f (leaf.Node m) ≡ true → nodes m) → EachLeaf (OfLeaf P nodes) f
  of_leaves nodes f readable each = each_leaf (OfLeaf P nodes) f of_leaf
    where
      of_leaf : (l : Leaf) → names f l ≡ true → OfLeaf P nodes l
      of_leaf (leaf.Pin p) named = pins p (readable (leaf.Pin p) named)
      of_leaf (leaf.Q c) named = qs c (readable (leaf.Q c) named)
      of_leaf (leaf.Node m) named = each m (subst (λ k. m < k) (nodes_count net) (readable (leaf.Node m) named)) named

  ranks : Ranked (length (plain_netlist net).nodes) (node_names_node (plain_netlist net))
  ranks = node_ranks t (plain_netlist net) sound.sound

  through : (turns n : ℕ) → n < length net.nodes → ranks.rank n < turns → ReachesThrough net P turns n
  through zero n within low = absurd (omega arith)
  through (suc turns) n within low =
      (within, (sound.nodes n no_id_function within).0, of_leaves (ReachesThrough net P turns) (node_formula net n) (one_sound t net sound n within) (lower (λ m m_in less. through turns m m_in less)))
    where
      lower : ((m : ℕ) → m < length net.nodes → ranks.rank m < turns → ReachesThrough net P turns m) → (m : ℕ) → m < length net.nodes
          → names (node_formula net n) (leaf.Node m) ≡ true → ReachesThrough net P turns m
      lower by m m_in named =
          let count = nodes_count net in
          let falls = ranks.falls n m (subst (λ k. n < k) (sym count) within) (subst (λ k. m < k) (sym count) m_in)
          (ap (λ f. names f.one (leaf.Node m)) (node_is net n within) ∙ named) in
          by m m_in (omega (arith, falls, low))

  pub reaches : (f : Formula) → IsSoundFormula t (plain_netlist net) f → Reaches net P f
  reaches f readable = of_leaves (ReachesThrough net P (length net.nodes)) f readable (λ m m_in named.
      let below = ranks.below m (subst (λ k. m < k) (sym (nodes_count net)) m_in) in
      let few = ranks.few in
      through (length net.nodes) m m_in (omega (arith, below, few, nodes_count net)))
