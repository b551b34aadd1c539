use Rattle.std.proofs.Common.{◌<◌, arith}
use Rattle.pld_machine.proofs.Common.{bits, levels_of, q_at_edge, length-bits}
use Rattle.pld_machine.proofs.Fills.{filled_none, filled_more}
use Rattle.pld_machine.proofs.steps.edge_q.Goals as goal

pub loop-cell-init : goal.loop-cell-init
loop-cell-init g c = filled_none (q_at_edge (g.L.Logic.meaning c.args.logic.now) (levels_of c.args.at.now))

pub loop-cell-preserved : goal.loop-cell-preserved
loop-cell-preserved g c =
    let low : c.loop-cell.cell < 32 = omega (arith, c.requires.cells) in
    rw c.with_level-q.ensures
    (filled_more (bits 32 c.loop-cell.q) (q_at_edge (g.L.Logic.meaning c.args.logic.now) (levels_of c.args.at.now)) c.loop-cell.cell c.edge_q_of-on.result
    (length-bits 32 c.loop-cell.q) low c.edge_q_of-on.ensures c.loop-cell.invariant)
