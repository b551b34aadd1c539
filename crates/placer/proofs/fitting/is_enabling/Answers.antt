-- One cell more.
use Rattle.std.proofs.Common.{◌<◌, ◌≤◌, ◌||◌, ◌+◌, Bool, drop, length, sym, ap, ◌∙◌, arith}
use Rattle.placer.proofs.Common.{list_any, get_or_from_slice_get, Cell, no_cell, is_enabled_by, any_here, any_none}
use Rattle.placer.proofs.fitting.is_enabling.Goals as goal

pub returns-then-is_enabled_by : goal.returns-then-is_enabled_by
returns-then-is_enabled_by g c =
    let cells = g.D.Device.table.cells in
    let test : Cell → Bool = λ (x : Cell). is_enabled_by c.args.pin x.enable in
    let within : c.loop-index.index < length cells = omega (arith, c.loop-index-test.true, c.cells-index-end.ensures) in
    let here = get_or_from_slice_get cells c.loop-index.index c.cell.result no_cell c.cell.ensures in
    sym (c.loop-index.invariant ∙ any_here test no_cell cells c.loop-index.index within ∙ ap (λ b. b || list_any test (drop (c.loop-index.index + 1) cells)) (ap test here ∙ sym c.is_enabled_by.ensures ∙ c.if-is_enabled_by.true))

pub loop-index-preserved : goal.loop-index-preserved
loop-index-preserved g c =
    let cells = g.D.Device.table.cells in
    let test : Cell → Bool = λ (x : Cell). is_enabled_by c.args.pin x.enable in
    let within : c.loop-index.index < length cells = omega (arith, c.loop-index-test.true, c.cells-index-end.ensures) in
    let here = get_or_from_slice_get cells c.loop-index.index c.cell.result no_cell c.cell.ensures in
    c.loop-index.invariant ∙ any_here test no_cell cells c.loop-index.index within ∙ ap (λ b. b || list_any test (drop (c.loop-index.index + 1) cells)) (ap test here ∙ sym c.is_enabled_by.ensures ∙ c.if-is_enabled_by.false)

pub returns : goal.returns
returns g c =
    let past : length g.D.Device.table.cells ≤ c.loop-index.index = omega (arith, c.loop-index-test.false, c.cells-index-end.ensures) in
    sym (c.loop-index.invariant ∙ any_none (λ (x : Cell). is_enabled_by c.args.pin x.enable) no_cell g.D.Device.table.cells c.loop-index.index past)
