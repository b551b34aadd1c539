-- One cell more.
use Rattle.std.proofs.Common.{◌<◌, ◌≤◌, ◌||◌, ◌&&◌, ◌==◌, ◌+◌, Bool, drop, length, sym, ap, ◌∙◌, arith}
use Rattle.placer.proofs.Common.{list_any, get_or_from_slice_get, Cell, no_cell, any_here, any_none}
use Rattle.placer.specs.Signals.{is_unsuited}
use Rattle.placer.proofs.fitting.has_unsuited_on.Goals as goal

pub returns-then-is_unsuited_on : goal.returns-then-is_unsuited_on
returns-then-is_unsuited_on g c =
    let cells = g.D.Device.table.cells in
    let test : Cell → Bool = λ (x : Cell). (x.pin == c.args.pin) && is_unsuited c.args.assigned x.enable in
    let within : c.loop-index.index < length cells = omega (arith, c.loop-index-test.true, c.cells-index-end.ensures) in
    let here = get_or_from_slice_get cells c.loop-index.index c.cell-cell.result no_cell c.cell-cell.ensures in
    sym (c.loop-index.invariant ∙ any_here test no_cell cells c.loop-index.index within ∙ ap (λ b. b || list_any test (drop (c.loop-index.index + 1) cells)) (ap test here ∙ sym c.is_unsuited_on.ensures ∙ c.if-is_unsuited_on.true))

pub loop-index-preserved : goal.loop-index-preserved
loop-index-preserved g c =
    let cells = g.D.Device.table.cells in
    let test : Cell → Bool = λ (x : Cell). (x.pin == c.args.pin) && is_unsuited c.args.assigned x.enable in
    let within : c.loop-index.index < length cells = omega (arith, c.loop-index-test.true, c.cells-index-end.ensures) in
    let here = get_or_from_slice_get cells c.loop-index.index c.cell-cell.result no_cell c.cell-cell.ensures in
    c.loop-index.invariant ∙ any_here test no_cell cells c.loop-index.index within ∙ ap (λ b. b || list_any test (drop (c.loop-index.index + 1) cells)) (ap test here ∙ sym c.is_unsuited_on.ensures ∙ c.if-is_unsuited_on.false)

pub returns : goal.returns
returns g c =
    let past : length g.D.Device.table.cells ≤ c.loop-index.index = omega (arith, c.loop-index-test.false, c.cells-index-end.ensures) in
    sym (c.loop-index.invariant ∙ any_none (λ (x : Cell). (x.pin == c.args.pin) && is_unsuited c.args.assigned x.enable) no_cell g.D.Device.table.cells c.loop-index.index past)
