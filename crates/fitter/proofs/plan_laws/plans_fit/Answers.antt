use Rattle.fitter.proofs.PlansFit as plans
use Rattle.fitter.proofs.plan_laws.plans_fit.Goals as goal

pub returns : goal.returns
returns c = plans.plans_fit
