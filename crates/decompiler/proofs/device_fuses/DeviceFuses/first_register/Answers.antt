use Rattle.std.proofs.Common.{◌<◌, ◌≤◌, length, sym, ◌∙◌, arith}
use Rattle.decompiler.proofs.Common.{stores}
use Rattle.decompiler.proofs.Ranges.{next_left, found_here, none_left}
use Rattle.decompiler.proofs.device_fuses.DeviceFuses.first_register.Goals as goal

pub loop-cell-preserved : goal.loop-cell-preserved
loop-cell-preserved g c =
    let t = g.D.Device.table in
    let within : c.loop-cell.cell < length t.cells = omega (arith, c.loop-cell-test.true, c.cells-cell-end.ensures) in
    c.loop-cell.invariant ∙ next_left (stores t c.args.self.now) c.loop-cell.cell (length t.cells) within (sym c.stores.ensures ∙ c.if-stores.false)

pub returns-then-stores-clause-first : goal.returns-then-stores-clause-first
returns-then-stores-clause-first g c =
    let t = g.D.Device.table in
    let within : c.loop-cell.cell < length t.cells = omega (arith, c.loop-cell-test.true, c.cells-cell-end.ensures) in
    sym (c.loop-cell.invariant ∙ found_here (stores t c.args.self.now) c.loop-cell.cell (length t.cells) within (sym c.stores.ensures ∙ c.if-stores.true))

pub returns-clause-first : goal.returns-clause-first
returns-clause-first g c =
    let t = g.D.Device.table in
    let past : length t.cells ≤ c.loop-cell.cell = omega (arith, c.loop-cell-test.false, c.cells-cell-end.ensures) in
    sym (c.loop-cell.invariant ∙ none_left (stores t c.args.self.now) c.loop-cell.cell (length t.cells) past)
