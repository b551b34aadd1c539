use Rattle.std.proofs.Common.{sym, ◌∙◌}
use Rattle.decompiler.proofs.Common.{reset_if_any, preset_if_any, cell_lines}
use Rattle.std.proofs.Math.Nat.{zero-add}
use Rattle.decompiler.proofs.Ranges.{more_given}
use Rattle.decompiler.proofs.device_fuses.DeviceFuses.lines.Goals as goal

pub loop-cell-preserved : goal.loop-cell-preserved
loop-cell-preserved g c =
    more_given (cell_lines g.D.Device.table c.args.self.now) 0 c.loop-cell.cell c.loop-cell.cell c.loop-cell.lines.items _
    c.loop-cell.invariant c.in_ok-push_cell.ensures (sym (zero-add c.loop-cell.cell))

pub push_shared-requires : goal.push_shared-requires
push_shared-requires g c = rw c.reset.ensures (reset_if_any g.D.Device.table g.D.Device.sound)

pub push_shared-requires-2 : goal.push_shared-requires-2
push_shared-requires-2 g c = rw c.preset.ensures (preset_if_any g.D.Device.table g.D.Device.sound)
