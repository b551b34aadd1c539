-- What the searches answer of the graph of a device's cells, said of its cells.
use Rattle.std.proofs.Common.{ℕ, Bool, List, length, subst}
use Rattle.device_logic.proofs.Common.{IsOrder, IsLeastLoop, HasNoLoop, IsPath, HasNoPath, reads_of, is_on, Table, HasCells, IsGraph}
use Rattle.pld_order.proofs.SameGraphs.{order_same, no_loop_same, least_same, path_same, no_path_same}

module _ (t : Table) (test : ℕ → ℕ → Bool) (sets : List (List Bool)) (graph : IsGraph t test sets) where
  pub order_of_graph : (order : List ℕ) → IsOrder (length sets) (reads_of sets) order → IsOrder (length t.cells) test order
  order_of_graph order is = order_same (length t.cells) (reads_of sets) test graph.reads order (subst (λ n. IsOrder n (reads_of sets) order) graph.size is)

  pub no_loop_of_graph : HasNoLoop (length sets) (reads_of sets) → HasNoLoop (length t.cells) test
  no_loop_of_graph none = no_loop_same (length t.cells) (reads_of sets) test graph.reads (subst (λ n. HasNoLoop n (reads_of sets)) graph.size none)

  pub least_of_graph : (chain : List ℕ) → IsLeastLoop (length sets) (reads_of sets) chain → IsLeastLoop (length t.cells) test chain
  least_of_graph chain is = least_same (length t.cells) (reads_of sets) test graph.reads chain (subst (λ n. IsLeastLoop n (reads_of sets) chain) graph.size is)

  module _ (starts ends : ℕ → Bool) (start_set end_set : List Bool) (has_starts : HasCells t starts start_set) (has_ends : HasCells t ends end_set) where
    pub path_of_graph : (path : List ℕ) → IsPath (length sets) (reads_of sets) (is_on start_set) (is_on end_set) path → IsPath (length t.cells) test starts ends path
    path_of_graph path is =
        path_same (length t.cells) (reads_of sets) test graph.reads (is_on start_set) starts (is_on end_set) ends has_starts has_ends path
        (subst (λ n. IsPath n (reads_of sets) (is_on start_set) (is_on end_set) path) graph.size is)

    pub no_path_of_graph : HasNoPath (length sets) (reads_of sets) (is_on start_set) (is_on end_set) → HasNoPath (length t.cells) test starts ends
    no_path_of_graph none =
        no_path_same (length t.cells) (reads_of sets) test graph.reads (is_on start_set) starts (is_on end_set) ends has_starts has_ends
        (subst (λ n. HasNoPath n (reads_of sets) (is_on start_set) (is_on end_set)) graph.size none)
