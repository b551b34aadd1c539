-- A cell was found, or none is there.
use Rattle.std.proofs.Common.{◌==◌, ◌&&◌, length, sym, ◌∙◌, arith}
use Rattle.pair_commands.proofs.Common.{bits, is_on, cell_at}
use Rattle.device_logic.proofs.Runs.{any_at, any_none}
use Rattle.pair_commands.proofs.differ_line.q_on.Goals as goal

pub returns-then-is_on_at : goal.returns-then-is_on_at
returns-then-is_on_at g c =
    let t = g.D.Device.table in
    sym (any_at (λ k. (cell_at t k).pin == c.args.pin && is_on (bits 32 c.args.stored) k) 0 (length t.cells) c.loop-cell.cell (omega arith) (omega (arith, c.loop-cell-test.true, c.cells-cell-end.ensures)) (sym c.is_on_at.ensures ∙ c.if-is_on_at.true))

pub returns : goal.returns
returns g c =
    let t = g.D.Device.table in
    sym (any_none (λ k. (cell_at t k).pin == c.args.pin && is_on (bits 32 c.args.stored) k) 0 (length t.cells) (λ k low high. c.loop-cell.invariant k (omega (arith, high, c.loop-cell-test.false, c.cells-cell-end.ensures))))
