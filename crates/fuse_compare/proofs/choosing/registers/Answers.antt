use Rattle.std.proofs.Common.{sym, ◌∙◌, arith}
use Rattle.fuse_compare.proofs.Common.{bits, length-bits}
use Rattle.fuse_compare.proofs.Gathered.{register_in, register_out, registers_none}
use Rattle.fuse_compare.proofs.choosing.registers.Goals.{then-either_stores, else-either_stores}
use Rattle.fuse_compare.proofs.choosing.registers.Goals as goal

pub loop-cell-init : goal.loop-cell-init
loop-cell-init g c = registers_none g.D.Device.table c.args.a.now c.args.b.now

pub loop-cell-preserved : goal.loop-cell-preserved
loop-cell-preserved g c =
    let t = g.D.Device.table in
    elim c.if-either_stores.branch [
      | then-either_stores w ↦
          rw (w.stored-is, w.with_level-stored.ensures)
          (register_in t c.args.a.now c.args.b.now c.loop-cell.cell (bits 32 c.loop-cell.stored) (length-bits 32 c.loop-cell.stored)
          (omega (arith, c.loop-cell-test.true, c.cells-cell-end.ensures, g.D.Device.sound.sizes.few_cells))
          c.loop-cell.invariant (sym c.either_stores.ensures ∙ w.if-either_stores.true))
      | else-either_stores w ↦
          rw w.stored-is (register_out t c.args.a.now c.args.b.now c.loop-cell.cell (bits 32 c.loop-cell.stored) c.loop-cell.invariant (sym c.either_stores.ensures ∙ w.if-either_stores.false))
    ]
