use Rattle.fit_plans.proofs.InsideLists as lists
use Rattle.fit_plans.proofs.list_laws.lists_inside.Goals as goal

pub returns : goal.returns
returns c = lists.lists_inside
