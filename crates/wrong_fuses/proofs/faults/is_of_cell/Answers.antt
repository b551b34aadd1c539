use Rattle.std.proofs.Common.{◌||◌, length, sym, ◌∙◌, arith}
use Rattle.wrong_fuses.proofs.Common.{any_at, any_none, inverted_at, registered_at, names}
use Rattle.wrong_fuses.proofs.faults.is_of_cell.Goals as goal

pub returns-then-is_of : goal.returns-then-is_of
returns-then-is_of g c =
    let t = g.D.Device.table in
    sym (any_at (λ d. names c.args.fuse (inverted_at t d) || names c.args.fuse (registered_at t d)) 0 (length t.cells) c.loop-cell.cell (omega arith)
    (omega (arith, c.loop-cell-test.true, c.cells-cell-end.ensures)) (sym c.is_of.ensures ∙ c.if-is_of.true))

pub returns : goal.returns
returns g c =
    let t = g.D.Device.table in
    sym (any_none (λ d. names c.args.fuse (inverted_at t d) || names c.args.fuse (registered_at t d)) 0 (length t.cells)
    (λ k low high. c.loop-cell.invariant k (omega (arith, high, c.loop-cell-test.false, c.cells-cell-end.ensures))))
