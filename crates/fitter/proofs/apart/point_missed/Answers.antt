use Rattle.std.proofs.Common.{◌≡◌, ◌+◌, length, subst, arith, List, slice_range}
use Rattle.fitter.proofs.Common.{length-append, Cube, AllAskBelow, FindsMissed}
use Rattle.covers.proofs.CofactorLists.{appended}
use Rattle.fitter.proofs.apart.point_missed.Goals as goal

pub missed_in-found-requires-clause-below : goal.missed_in-found-requires-clause-below
missed_in-found-requires-clause-below c =
    let put = c.push_all-range in
    rw (appended c.args.pool.now.cubes put.new.self.cubes c.args.cover.now put.result.from put.result.to put.ensures.cubes put.ensures.from put.ensures.to) c.requires.below

pub missed_in-found-requires-clause-spare : goal.missed_in-found-requires-clause-spare
missed_in-found-requires-clause-spare c =
    let put = c.push_all-range in
    let long : length put.new.self.cubes ≡ length c.args.pool.now.cubes + length c.args.cover.now = rw put.ensures.cubes (length-append c.args.pool.now.cubes c.args.cover.now) in
    omega (arith, long, put.ensures.from, put.ensures.to, put.ensures.spare, c.requires.few, c.requires.spare)

pub returns-clause-answer : goal.returns-clause-answer
returns-clause-answer c =
    let put = c.push_all-range in
    subst (λ (cubes : List Cube). FindsMissed c.args.rows.now cubes c.args.vars c.missed_in-found.result)
    (appended c.args.pool.now.cubes put.new.self.cubes c.args.cover.now put.result.from put.result.to put.ensures.cubes put.ensures.from put.ensures.to) c.missed_in-found.ensures.answer
