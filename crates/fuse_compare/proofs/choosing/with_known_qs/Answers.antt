use Rattle.std.proofs.Common.{sym, ◌∙◌, arith}
use Rattle.fuse_compare.proofs.Gathered.{pins_first, q_in, q_out}
use Rattle.fuse_compare.proofs.choosing.with_known_qs.Goals.{then-either_knows_q+in_ok-push, else-either_knows_q}
use Rattle.fuse_compare.proofs.choosing.with_known_qs.Goals as goal

pub loop-cell-init : goal.loop-cell-init
loop-cell-init g c = pins_first g.D.Device.table c.args.a.now c.args.b.now c.args.pins.items c.requires

pub loop-cell-preserved : goal.loop-cell-preserved
loop-cell-preserved g c =
    let t = g.D.Device.table in
    elim c.if-either_knows_q.branch [
      | then-either_knows_q+in_ok-push w ↦
          rw (w.vars-is, w.in_ok-push.ensures.items)
          (q_in t c.args.a.now c.args.b.now c.loop-cell.cell c.loop-cell.vars.items (omega (arith, c.loop-cell-test.true, c.cells-cell-end.ensures, g.D.Device.sound.sizes.few_cells))
          c.loop-cell.invariant (sym c.either_knows_q.ensures ∙ w.if-either_knows_q.true))
      | else-either_knows_q w ↦
          rw w.vars-is (q_out t c.args.a.now c.args.b.now c.loop-cell.cell c.loop-cell.vars.items c.loop-cell.invariant (sym c.either_knows_q.ensures ∙ w.if-either_knows_q.false))
    ]
