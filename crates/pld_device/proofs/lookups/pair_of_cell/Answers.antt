use Rattle.std.proofs.Common.{◌<◌, ◌≤◌, length, sym, ap, ◌∙◌, arith}
use Rattle.pld_device.proofs.Common.{get_or_from_slice_get, carries_cell}
use Rattle.pld_device.specs.declared.carry.Carry.TheVariants as carry
use Rattle.pld_device.proofs.FirstPlaces.{place_first, place_here, place_later, place_none}
use Rattle.pld_device.proofs.lookups.pair_of_cell.Goals as goal

pub loop-pair-init : goal.loop-pair-init
loop-pair-init g c = place_first (carries_cell c.args.cell) (carry.Pin 0) g.D.Device.table.pairs

pub returns-then-is_cell-clause-pair : goal.returns-then-is_cell-clause-pair
returns-then-is_cell-clause-pair g c =
    let within : c.loop-pair.pair < length g.D.Device.table.pairs = omega (arith, c.loop-pair-test.true, c.columns-pair-end.ensures, g.D.Device.sound.sizes.columns_even) in
    let here = get_or_from_slice_get g.D.Device.table.pairs c.loop-pair.pair c.carries.result (carry.Pin 0) c.carries.ensures in
    sym (c.loop-pair.invariant ∙ place_here (carries_cell c.args.cell) (carry.Pin 0) g.D.Device.table.pairs c.loop-pair.pair within (ap (carries_cell c.args.cell) here ∙ sym c.is_cell.ensures ∙ c.if-is_cell.true))

pub loop-pair-preserved : goal.loop-pair-preserved
loop-pair-preserved g c =
    let within : c.loop-pair.pair < length g.D.Device.table.pairs = omega (arith, c.loop-pair-test.true, c.columns-pair-end.ensures, g.D.Device.sound.sizes.columns_even) in
    let here = get_or_from_slice_get g.D.Device.table.pairs c.loop-pair.pair c.carries.result (carry.Pin 0) c.carries.ensures in
    c.loop-pair.invariant ∙ place_later (carries_cell c.args.cell) (carry.Pin 0) g.D.Device.table.pairs c.loop-pair.pair within (ap (carries_cell c.args.cell) here ∙ sym c.is_cell.ensures ∙ c.if-is_cell.false)

pub returns-clause-pair : goal.returns-clause-pair
returns-clause-pair g c =
    let past : length g.D.Device.table.pairs ≤ c.loop-pair.pair = omega (arith, c.loop-pair-test.false, c.columns-pair-end.ensures, g.D.Device.sound.sizes.columns_even) in
    sym (c.loop-pair.invariant ∙ place_none (carries_cell c.args.cell) (carry.Pin 0) g.D.Device.table.pairs c.loop-pair.pair past)
