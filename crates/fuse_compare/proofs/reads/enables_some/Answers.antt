use Rattle.std.proofs.Common.{◌≡◌, false, sym, ap, ◌∙◌, below_more, arith}
use Rattle.fuse_compare.proofs.Common.{Cell, is_enable_pin, cell_at}
use Rattle.fuse_compare.proofs.DeviceKnows.{any_cell, no_cell_passes}
use Rattle.fuse_compare.proofs.reads.enables_some.Goals as goal

pub returns-then-is_enable_pin : goal.returns-then-is_enable_pin
returns-then-is_enable_pin g c =
    let t = g.D.Device.table in
    sym (any_cell (λ (cell : Cell). is_enable_pin c.args.pin cell.enable) t.cells c.loop-cell.cell (omega (arith))
    (ap (λ (cell : Cell). is_enable_pin c.args.pin cell.enable) (sym c.cell_of.ensures.found) ∙ (sym c.is_enable_pin.ensures ∙ c.if-is_enable_pin.true)))

pub loop-cell-preserved : goal.loop-cell-preserved
loop-cell-preserved g c =
    below_more (λ d. is_enable_pin c.args.pin (cell_at g.D.Device.table d).enable ≡ false) c.loop-cell.cell c.loop-cell.invariant
    (ap (λ (cell : Cell). is_enable_pin c.args.pin cell.enable) (sym c.cell_of.ensures.found) ∙ (sym c.is_enable_pin.ensures ∙ c.if-is_enable_pin.false))

pub returns : goal.returns
returns g c =
    let t = g.D.Device.table in
    sym (no_cell_passes (λ (cell : Cell). is_enable_pin c.args.pin cell.enable) t.cells (λ d low. c.loop-cell.invariant d (omega (arith, low))))
