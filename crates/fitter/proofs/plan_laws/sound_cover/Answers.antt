use Rattle.fitter.proofs.Coverable as coverable
use Rattle.fitter.proofs.plan_laws.sound_cover.Goals as goal

pub returns : goal.returns
returns c = coverable.sound_cover
