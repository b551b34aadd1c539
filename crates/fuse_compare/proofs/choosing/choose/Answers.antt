use Rattle.fuse_compare.proofs.Common.{bits, length-bits}
use Rattle.fuse_compare.proofs.Gathered.{chosen_other, chosen_same}
use Rattle.fuse_compare.proofs.choosing.choose.Goals as goal

pub returns-in_ok-vars-clause-chosen : goal.returns-in_ok-vars-clause-chosen
returns-in_ok-vars-clause-chosen g c =
    chosen_same g.D.Device.table c.args.a.now c.args.b.now c.in_ok-vars.vars.items (bits 32 c.registers-fixed.result) (length-bits 32 c.registers-fixed.result) c.registers-fixed.ensures
    (c.has_same_registers.ensures.same c.if-has_same_registers.true) c.in_ok-vars.ensures

pub returns-else-has_same_registers-clause-chosen : goal.returns-else-has_same_registers-clause-chosen
returns-else-has_same_registers-clause-chosen g c =
    let other = c.has_same_registers.ensures.other c.if-has_same_registers.false in
    chosen_other g.D.Device.table c.args.a.now c.args.b.now c.in_ok-pins.pins.items (bits 32 c.registers-fixed.result) (length-bits 32 c.registers-fixed.result) c.registers-fixed.ensures
    other.0 other.1 other.2 c.in_ok-pins.ensures
