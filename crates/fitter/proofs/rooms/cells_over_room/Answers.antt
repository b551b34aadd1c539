-- Each cell is given by its covers.
use Rattle.std.proofs.Common.{◌<◌, length, refl, ◌∙◌, subst, sym, arith}
use Rattle.fitter.proofs.Common.{cell_wanted, HasCoversAs}
use Rattle.fitter.proofs.ToldCells.{tells_more}
use Rattle.fitter.proofs.rooms.cells_over_room.Goals as goal

pub loop-cell-preserved : goal.loop-cell-preserved
loop-cell-preserved g c =
    let t = g.D.Device.table in
    let net = c.args.net.now in
    let mask = c.turn_mask-turned.result in
    let cell = c.loop-cell.cell in
    let low : cell < length t.cells = omega (arith, c.loop-cell-test.true, c.cells-cell-end.ensures) in
    let has : HasCoversAs t mask net (cell_wanted net cell) c.taken-covers.result =
    subst (HasCoversAs t mask net (cell_wanted net cell)) (sym (c.taken-covers.ensures.value ∙ c.loop-cell.invariant.left cell (omega arith)))
    (c.in_ok-left.ensures.all refl cell low) in
    record {
      long = c.taken-covers.ensures.long ∙ c.loop-cell.invariant.long;
      left = λ d above. c.taken-covers.ensures.later d (omega (arith, above)) ∙ c.loop-cell.invariant.left d (omega (arith, above));
      over = c.in_ok-add_overfull.ensures.over;
      told = tells_more t mask net cell c.taken-covers.result c.loop-cell.list.items c.add_overfull.new.list.items c.loop-cell.invariant.told has c.in_ok-add_overfull.ensures.told;
    }
