-- The nodes of a sound netlist have ranks, no more than there are nodes, each above those of the nodes that it names.
use Rattle.std.proofs.Common.{◌≡◌, ℕ, ◌+◌, ◌<◌, Bool, length}
use Rattle.fitter.proofs.Common.{Table, Ranked, no_loop_by_rank, ranked, names, PlainNetlist, node_at, netlist_waits, signal_count, IsSound, node_falls}
use Rattle.bit_expr.specs.declared.node.Leaf.TheVariants as leaf

-- the first node's `one` names the second
abbrev pub node_names_node : PlainNetlist → ℕ → ℕ → Bool
node_names_node net n m = names (node_at net n).one (leaf.Node m)

-- those of all signals
pub signal_ranks : (t : Table) (net : PlainNetlist) → IsSound t net → Ranked (signal_count t net) (netlist_waits t net)
signal_ranks t net sound = ranked (signal_count t net) (netlist_waits t net) sound.no_loop

pub node_ranks : (t : Table) (net : PlainNetlist) → IsSound t net → Ranked (length net.nodes) (node_names_node net)
node_ranks t net sound =
    let all = signal_ranks t net sound in
    ranked (length net.nodes) (node_names_node net)
    (no_loop_by_rank (length net.nodes) (node_names_node net) (λ n. all.rank (length t.cells + n)) (λ n m n_in m_in named. node_falls t net sound all n m n_in m_in named))
