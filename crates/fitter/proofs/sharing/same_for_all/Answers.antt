use Rattle.std.proofs.Common.{length, refl, sym, ◌∙◌, subst, arith}
use Rattle.fitter.proofs.Common.{FindsApartAt, IsListedBit}
use Rattle.fitter.proofs.ListPoints.{list_below}
use Rattle.fitter.proofs.Alike.{below_more, is_shared, not_shared}
use Rattle.fitter.proofs.sharing.same_for_all.Goals as goal

pub loop-cell-init : goal.loop-cell-init
loop-cell-init g c = λ d w f low is own at valued. absurd (omega (arith, low))

pub apart_at-requires-clause-few : goal.apart_at-requires-clause-few
apart_at-requires-clause-few g c = rw c.deref.ensures.value c.in_ok-rows.ensures.few

pub apart_at-requires-clause-below : goal.apart_at-requires-clause-below
apart_at-requires-clause-below g c =
    rw c.deref.ensures.value
    (list_below g.D.Device.table g.D.Device.sound c.args.fit.now.over.net.now c.requires.sound c.args.bit c.in_ok-rows.rows.items c.in_ok-rows.ensures.id c.in_ok-rows.ensures.list)

pub loop-cell-preserved : goal.loop-cell-preserved
loop-cell-preserved g c =
    let t = g.D.Device.table in
    let rows = c.deref.result.now in
    below_more t g.D.Device.sound c.args.fit.now.over.net.now c.requires.sound c.args.which c.requires.listed c.args.first c.args.bit rows c.requires.first
    (subst (IsListedBit t c.args.fit.now.over.net.now c.args.bit) (sym c.deref.ensures.value) c.in_ok-rows.ensures) c.loop-cell.cell c.loop-cell.invariant
    (subst (FindsApartAt c.args.fit.now.over.net.now c.args.which c.loop-cell.cell (length t.pairs) rows) c.in_default.is c.in_ok-levels.ensures)

pub returns-in-Some : goal.returns-in-Some
returns-in-Some g c =
    let t = g.D.Device.table in
    let rows = c.deref.result.now in
    not_shared t g.D.Device.sound c.args.fit.now.over.net.now c.requires.sound c.args.which c.requires.listed c.args.first c.args.bit rows c.requires.first
    (subst (IsListedBit t c.args.fit.now.over.net.now c.args.bit) (sym c.deref.ensures.value) c.in_ok-rows.ensures) c.in-Some.levels c.in_ok-point.point c.in_ok-point.ensures.wired c.in_ok-point.ensures.valued c.loop-cell.cell
    (subst (FindsApartAt c.args.fit.now.over.net.now c.args.which c.loop-cell.cell (length t.pairs) rows) c.in-Some.is c.in_ok-levels.ensures) c.loop-cell.invariant

pub returns : goal.returns
returns g c =
    is_shared g.D.Device.table g.D.Device.sound c.args.fit.now.over.net.now c.requires.sound c.args.which c.requires.listed c.args.first c.args.bit c.in_ok-rows.rows.items c.requires.first c.in_ok-rows.ensures
    c.loop-cell.cell (omega (arith, c.loop-cell-test.false, c.cells-cell-end.ensures)) c.loop-cell.invariant
