use Rattle.std.proofs.Common.{get_or, sym, subst, ◌∙◌, ap}
use Rattle.fuse_compare.proofs.Common.{Cube, OrderedFuses, IsPairCube}
use Rattle.fuse_compare.proofs.masked.MaskedLogic.cube.Goals as goal

pub returns : goal.returns
returns g c =
    let t = g.D.Device.table in
    subst (λ (cube : Cube). IsPairCube t c.args.self.now.fuses c.args.row cube) (sym (c.index.ensures ∙ ap (λ k. get_or c.self.inside.cubes.items k c.index.result.now) c.from.ensures))
    (subst (λ (l : OrderedFuses). IsPairCube t l.fuses c.args.row (get_or c.self.inside.cubes.items c.args.row c.index.result.now)) c.self.view_is
    (c.self.invariant.each c.args.row c.index.result.now c.requires))
