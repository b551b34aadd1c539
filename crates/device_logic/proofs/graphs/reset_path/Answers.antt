use Rattle.std.proofs.Common.{length, sym, subst, arith}
use Rattle.device_logic.proofs.Common.{is_on, IsPath, HasNoPath, reads_of, stores, IsGraph, IsResetPath, HasNoResetPath, plain_reads, reset_reads}
use Rattle.device_logic.proofs.Loads.{some_weaker, none_weaker}
use Rattle.device_logic.proofs.SameOrders.{path_of_graph, no_path_of_graph}
use Rattle.device_logic.proofs.graphs.reset_path.Goals as goal

pub path-requires : goal.path-requires
path-requires g c = let fits = c.as_slice.ensures.fits in omega (arith, fits)

pub returns-clause-found : goal.returns-clause-found
returns-clause-found g c =
    let t = g.D.Device.table in
    let graph : IsGraph t (plain_reads t c.args.array.now) c.as_slice.result.now = subst (IsGraph t (plain_reads t c.args.array.now)) (sym c.as_slice.ensures.value) c.graph.ensures in
    some_weaker c.path.result
    (λ path. IsPath (length c.as_slice.result.now) (reads_of c.as_slice.result.now) (is_on c.cells-starts.result) (is_on c.cells-ends.result) path.items) (λ path. IsResetPath t c.args.array.now path.items)
    (λ path is. path_of_graph t (plain_reads t c.args.array.now) c.as_slice.result.now graph (reset_reads t c.args.array.now) (stores t c.args.array.now) c.cells-starts.result c.cells-ends.result c.cells-starts.ensures c.cells-ends.ensures path.items is)
    c.path.ensures.found

pub returns-clause-none : goal.returns-clause-none
returns-clause-none g c =
    let t = g.D.Device.table in
    let graph : IsGraph t (plain_reads t c.args.array.now) c.as_slice.result.now = subst (IsGraph t (plain_reads t c.args.array.now)) (sym c.as_slice.ensures.value) c.graph.ensures in
    none_weaker c.path.result (HasNoPath (length c.as_slice.result.now) (reads_of c.as_slice.result.now) (is_on c.cells-starts.result) (is_on c.cells-ends.result)) (HasNoResetPath t c.args.array.now)
    (λ none. no_path_of_graph t (plain_reads t c.args.array.now) c.as_slice.result.now graph (reset_reads t c.args.array.now) (stores t c.args.array.now) c.cells-starts.result c.cells-ends.result c.cells-starts.ensures c.cells-ends.ensures none)
    c.path.ensures.none
