use Rattle.std.proofs.Common.{arith}
use Rattle.device_logic.proofs.graphs.graph.Goals as goal

pub push-requires : goal.push-requires
push-requires g c = (
  omega arith,
  (let low = c.loop-cell-test.true in
      let long = c.loop-cell.invariant.0 in
      let few = g.D.Device.sound.sizes.few_cells in
      omega (arith, low, long, few, c.cells-cell-end.ensures)),
)
