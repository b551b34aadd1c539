use Rattle.fit_plans.proofs.TurnedCubes as cubes
use Rattle.fit_plans.proofs.list_laws.turned_points.Goals as goal

pub returns : goal.returns
returns c = cubes.turned_points
