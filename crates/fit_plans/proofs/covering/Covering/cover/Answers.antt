use Rattle.fit_plans.proofs.Ready.{are_inside}
use Rattle.fit_plans.proofs.covering.Covering.cover.Goals as goal

pub minimised-requires-clause-inside : goal.minimised-requires-clause-inside
minimised-requires-clause-inside c =
    let s = c.args.self.now in
    rw (c.deref-3.ensures.value, c.deref-4.ensures.value, c.in_ok-needed.ensures, c.in_ok-allowed.ensures, c.deref.ensures.value, c.deref-2.ensures.value)
    (are_inside s.vars s.turned s.net.now c.args.function c.args.positive s.few s.fits c.requires _ _ c.in-Ok.ensures.lists.0 c.in-Ok.ensures.lists.1)
