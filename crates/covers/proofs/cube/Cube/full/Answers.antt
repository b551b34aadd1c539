use Rattle.covers.proofs.CubePoints.{full_has_all}
use Rattle.covers.proofs.cube.Cube.full.Goals as goal

pub returns-clause-points : goal.returns-clause-points
returns-clause-points c = full_has_all
