use Rattle.std.proofs.Common.{◌<◌, ◌≤◌, length, sym, ◌∙◌, arith}
use Rattle.decompiler.proofs.Common.{is_register_on}
use Rattle.decompiler.proofs.Ranges.{next_left, found_here, none_left}
use Rattle.decompiler.proofs.device_fuses.DeviceFuses.register_on.Goals as goal

pub loop-cell-preserved : goal.loop-cell-preserved
loop-cell-preserved g c =
    let t = g.D.Device.table in
    let within : c.loop-cell.cell < length t.cells = omega (arith, c.loop-cell-test.true, c.cells-cell-end.ensures) in
    c.loop-cell.invariant ∙ next_left (is_register_on t c.args.self.now c.args.pin) c.loop-cell.cell (length t.cells) within (sym c.is_register_on.ensures ∙ c.if-is_register_on.false)

pub returns-then-is_register_on-clause-first : goal.returns-then-is_register_on-clause-first
returns-then-is_register_on-clause-first g c =
    let t = g.D.Device.table in
    let within : c.loop-cell.cell < length t.cells = omega (arith, c.loop-cell-test.true, c.cells-cell-end.ensures) in
    sym (c.loop-cell.invariant ∙ found_here (is_register_on t c.args.self.now c.args.pin) c.loop-cell.cell (length t.cells) within (sym c.is_register_on.ensures ∙ c.if-is_register_on.true))

pub returns-clause-first : goal.returns-clause-first
returns-clause-first g c =
    let t = g.D.Device.table in
    let past : length t.cells ≤ c.loop-cell.cell = omega (arith, c.loop-cell-test.false, c.cells-cell-end.ensures) in
    sym (c.loop-cell.invariant ∙ none_left (is_register_on t c.args.self.now c.args.pin) c.loop-cell.cell (length t.cells) past)
