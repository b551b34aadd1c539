use Rattle.std.proofs.Common.{length, sym, subst, arith}
use Rattle.device_logic.proofs.Common.{IsOrder, IsLeastLoop, HasNoLoop, reads_of, IsCellOrder, cell_reads, IsGraph}
use Rattle.std.proofs.lemmas.Result.{IfOk-weaker, IfErr-weaker}
use Rattle.device_logic.proofs.SameOrders.{order_of_graph, no_loop_of_graph, least_of_graph}
use Rattle.device_logic.proofs.graphs.cell_order.Goals as goal

pub order-requires : goal.order-requires
order-requires g c = let fits = c.as_slice.ensures.fits in omega (arith, fits)

pub returns-clause-ok : goal.returns-clause-ok
returns-clause-ok g c =
    let t = g.D.Device.table in
    let graph : IsGraph t (cell_reads t c.args.array.now) c.as_slice.result.now = subst (IsGraph t (cell_reads t c.args.array.now)) (sym c.as_slice.ensures.value) c.graph.ensures in
    IfOk-weaker c.order.result (λ order. IsOrder (length c.as_slice.result.now) (reads_of c.as_slice.result.now) order.items) (λ order. IsCellOrder t c.args.array.now order.items)
    (λ order is. order_of_graph t (cell_reads t c.args.array.now) c.as_slice.result.now graph order.items is) c.order.ensures.ok

pub returns-clause-no_loop : goal.returns-clause-no_loop
returns-clause-no_loop g c =
    let t = g.D.Device.table in
    let graph : IsGraph t (cell_reads t c.args.array.now) c.as_slice.result.now = subst (IsGraph t (cell_reads t c.args.array.now)) (sym c.as_slice.ensures.value) c.graph.ensures in
    IfOk-weaker c.order.result (λ order. HasNoLoop (length c.as_slice.result.now) (reads_of c.as_slice.result.now)) (λ order. HasNoLoop (length t.cells) (cell_reads t c.args.array.now))
    (λ order none. no_loop_of_graph t (cell_reads t c.args.array.now) c.as_slice.result.now graph none) c.order.ensures.no_loop

pub returns-clause-refused : goal.returns-clause-refused
returns-clause-refused g c =
    let t = g.D.Device.table in
    let graph : IsGraph t (cell_reads t c.args.array.now) c.as_slice.result.now = subst (IsGraph t (cell_reads t c.args.array.now)) (sym c.as_slice.ensures.value) c.graph.ensures in
    IfErr-weaker c.order.result (λ found. IsLeastLoop (length c.as_slice.result.now) (reads_of c.as_slice.result.now) found.vertices.items) (λ found. IsLeastLoop (length t.cells) (cell_reads t c.args.array.now) found.vertices.items)
    (λ found is. least_of_graph t (cell_reads t c.args.array.now) c.as_slice.result.now graph found.vertices.items is) c.order.ensures.refused
