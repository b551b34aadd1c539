use Rattle.std.proofs.Common.{◌<◌, ◌≤◌, length, ap, ◌∙◌, arith}
use Rattle.std.proofs.lemmas.List.{take_all}
use Rattle.std.proofs.lemmas.List.FromFn.{length-map-range_with_len}
use Rattle.pld_device.specs.Table.{inverted_at, inverted_by_cell}
use Rattle.pld_device.specs.declared.chip.Chip.{Chip}
use Rattle.pld_device.proofs.LoadedLists.{given_at, one_more}
use Rattle.pld_device.proofs.loading.inverted_of.Goals as goal

pub loop-cell-preserved : goal.loop-cell-preserved
loop-cell-preserved g c =
    let t = g.P.Part.table c.args.part.now in
    let within : c.loop-cell.cell < length t.cells = omega (arith, c.loop-cell-test.true, ap (λ (k : Chip). k.cells) c.chip-cell-end.ensures) in
    let here = given_at (inverted_at t) (length t.cells) c.loop-cell.cell c.inverted_at.result within c.inverted_at.ensures in
    c.push.ensures.items ∙ one_more c.loop-cell.bits.items (inverted_by_cell t) c.loop-cell.cell c.inverted_at.result c.loop-cell.invariant here

pub returns : goal.returns
returns g c =
    let t = g.P.Part.table c.args.part.now in
    let long = length-map-range_with_len (inverted_at t) 0 (length t.cells) in
    let past : length (inverted_by_cell t) ≤ c.loop-cell.cell = omega (arith, long, c.loop-cell-test.false, ap (λ (k : Chip). k.cells) c.chip-cell-end.ensures) in
    c.loop-cell.invariant ∙ take_all c.loop-cell.cell (inverted_by_cell t) past
