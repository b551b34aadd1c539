-- Each cell in turn is reported.
use Rattle.design_page.proofs.ToldCosts.{tells_more}
use Rattle.design_page.proofs.costs.costly_polarities.Goals as goal

pub loop-cell-preserved : goal.loop-cell-preserved
loop-cell-preserved g c = record {
  costly = c.in_ok-add_found.ensures.costly;
  told = tells_more g.D.Device.table c.args.net.now c.args.pins c.loop-cell.cell c.loop-cell.list.items c.add_found.new.list.items c.in_ok-found.found c.loop-cell.invariant.told
      c.in_ok-found.ensures.told c.in_ok-add_found.ensures.added;
}
