use Rattle.std.proofs.Common.{length, sym, ◌∙◌}
use Rattle.fitter.proofs.ListPoints.{list_below}
use Rattle.fitter.proofs.Alike.{found_apart, own_id}
use Rattle.fitter.proofs.sharing.apart_at.Goals as goal

pub listed-requires-clause-id : goal.listed-requires-clause-id
listed-requires-clause-id g c =
    own_id g.D.Device.table c.args.fit.now.over.net.now c.requires.sound c.args.which c.args.cell c.in-Some.wanted c.in-Some-own_control.control (sym c.cell_wanted.ensures ∙ c.in-Some.is)
    (sym c.own_control.ensures ∙ c.in-Some-own_control.is)

pub point_apart-requires-clause-first_below : goal.point_apart-requires-clause-first_below
point_apart-requires-clause-first_below g c =
    rw c.args.fit.now.pairs c.requires.below

pub point_apart-requires-clause-second_below : goal.point_apart-requires-clause-second_below
point_apart-requires-clause-second_below g c =
    rw (c.args.fit.now.pairs, c.deref.ensures.value)
    (list_below g.D.Device.table g.D.Device.sound c.args.fit.now.over.net.now c.requires.sound c.in-Some-own_control.control.bit c.in_ok-own.own.items c.in_ok-own.ensures.id c.in_ok-own.ensures.list)

pub returns : goal.returns
returns g c =
    found_apart c.args.fit.now.over.net.now c.args.which c.args.cell (length g.D.Device.table.pairs) c.args.rows.now c.in-Some.wanted c.in-Some-own_control.control c.in_ok-own.own.items
    (sym c.cell_wanted.ensures ∙ c.in-Some.is) (sym c.own_control.ensures ∙ c.in-Some-own_control.is) c.in_ok-own.ensures.list c.point_apart.result
    (rw (c.args.fit.now.pairs, c.deref.ensures.value) at c.point_apart.ensures.answer)
