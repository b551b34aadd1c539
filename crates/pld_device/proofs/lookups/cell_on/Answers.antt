-- The first cell with the pin; a device has few cells.
use Rattle.std.proofs.Common.{◌≡◌, ◌<◌, ◌==◌, length, true, false, sym, ap, ◌∙◌, arith}
use Rattle.pld_device.proofs.Common.{get_or_from_slice_get, nat_tests, Cell, no_cell}
use Rattle.pld_device.proofs.FirstPlaces.{place_first, place_here, place_later, place_none}
use Rattle.pld_device.proofs.lookups.cell_on.Goals as goal

pub loop-index-init : goal.loop-index-init
loop-index-init g c = place_first (λ (cell : Cell). cell.pin == c.args.pin) no_cell g.D.Device.table.cells

pub returns-then-cell-pin-clause-cell : goal.returns-then-cell-pin-clause-cell
returns-then-cell-pin-clause-cell g c =
    let within : c.loop-index.index < length g.D.Device.table.cells = omega (arith, c.loop-index-test.true, c.cells-index-end.ensures) in
    let here = get_or_from_slice_get g.D.Device.table.cells c.loop-index.index c.cell.result no_cell c.cell.ensures in
    let test : (c.cell.result.pin == c.args.pin) ≡ true = grind (arith, nat_tests, c.if-cell-pin.true) in
    sym (c.loop-index.invariant ∙ place_here (λ (cell : Cell). cell.pin == c.args.pin) no_cell g.D.Device.table.cells c.loop-index.index within (ap (λ (cell : Cell). cell.pin == c.args.pin) here ∙ test))

pub returns-then-cell-pin-clause-within : goal.returns-then-cell-pin-clause-within
returns-then-cell-pin-clause-within g c =
    omega (arith, c.loop-index-test.true, c.cells-index-end.ensures, g.D.Device.sound.sizes.few_cells)

pub loop-index-preserved : goal.loop-index-preserved
loop-index-preserved g c =
    let within : c.loop-index.index < length g.D.Device.table.cells = omega (arith, c.loop-index-test.true, c.cells-index-end.ensures) in
    let here = get_or_from_slice_get g.D.Device.table.cells c.loop-index.index c.cell.result no_cell c.cell.ensures in
    let test : (c.cell.result.pin == c.args.pin) ≡ false = grind (arith, nat_tests, c.if-cell-pin.false) in
    c.loop-index.invariant ∙ place_later (λ (cell : Cell). cell.pin == c.args.pin) no_cell g.D.Device.table.cells c.loop-index.index within (ap (λ (cell : Cell). cell.pin == c.args.pin) here ∙ test)

pub returns-clause-cell : goal.returns-clause-cell
returns-clause-cell g c =
    sym (c.loop-index.invariant ∙ place_none (λ (cell : Cell). cell.pin == c.args.pin) no_cell g.D.Device.table.cells c.loop-index.index (omega (arith, c.loop-index-test.false, c.cells-index-end.ensures)))
