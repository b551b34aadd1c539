use Rattle.std.proofs.Common.{◌<◌, ◌||◌, length, sym, ap, ◌∙◌, arith, drop, ◌+◌}
use Rattle.design_checks.proofs.Common.{list_any, get_or_from_slice_get, no_cell, is_wrong_cell}
use Rattle.pld_device.proofs.FirstPlaces.{any_here}
use Rattle.design_checks.proofs.name_facts.has_wrong_kind_on.Goals as goal

pub returns-then-is_wrong_cell : goal.returns-then-is_wrong_cell
returns-then-is_wrong_cell g c =
    let within : c.loop-index.index < length g.D.Device.table.cells = omega (arith, c.loop-index-test.true, c.cells-index-end.ensures) in
    let here = get_or_from_slice_get g.D.Device.table.cells c.loop-index.index c.cell.result no_cell c.cell.ensures in
    sym (c.loop-index.invariant ∙ any_here (is_wrong_cell c.args.pin c.args.stored) no_cell g.D.Device.table.cells c.loop-index.index within ∙ ap (λ b. b || list_any (is_wrong_cell c.args.pin c.args.stored) (drop (c.loop-index.index + 1) g.D.Device.table.cells)) (ap (is_wrong_cell c.args.pin c.args.stored) here ∙ sym c.is_wrong_cell.ensures ∙ c.if-is_wrong_cell.true))

pub loop-index-preserved : goal.loop-index-preserved
loop-index-preserved g c =
    let within : c.loop-index.index < length g.D.Device.table.cells = omega (arith, c.loop-index-test.true, c.cells-index-end.ensures) in
    let here = get_or_from_slice_get g.D.Device.table.cells c.loop-index.index c.cell.result no_cell c.cell.ensures in
    c.loop-index.invariant ∙ any_here (is_wrong_cell c.args.pin c.args.stored) no_cell g.D.Device.table.cells c.loop-index.index within ∙ ap (λ b. b || list_any (is_wrong_cell c.args.pin c.args.stored) (drop (c.loop-index.index + 1) g.D.Device.table.cells)) (ap (is_wrong_cell c.args.pin c.args.stored) here ∙ sym c.is_wrong_cell.ensures ∙ c.if-is_wrong_cell.false)
