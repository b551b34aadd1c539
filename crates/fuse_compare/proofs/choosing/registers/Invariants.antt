use Rattle.fuse_compare.proofs.Common.{bits, HoldsRegisters}
use Rattle.fuse_compare.proofs.choosing.registers.Given as goal

abbrev pub invariant-loop-cell : goal.invariant-loop-cell
invariant-loop-cell g l = HoldsRegisters g.D.Device.table l.a l.b l.cell (bits 32 l.stored)
