use Rattle.std.proofs.Common.{refl}
use Rattle.fit_plans.proofs.covering.Covering.try_cell.Goals as goal

pub returns-then-fits : goal.returns-then-fits
returns-then-fits c = record {
  direct = c.in_ok-direct.ensures;
  inverted = λ over. absurd (over (c.fits.ensures.fits c.if-fits.true));
  untried = λ fits. refl;
}

pub returns : goal.returns
returns c = record {
  direct = c.in_ok-direct.ensures;
  inverted = λ over. c.in_ok-inverted.ensures;
  untried = λ fits. absurd (c.fits.ensures.over c.if-fits.false fits);
}
