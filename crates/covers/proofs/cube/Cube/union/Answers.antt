use Rattle.covers.proofs.CubePoints.{union_points}
use Rattle.covers.proofs.cube.Cube.union.Goals as goal

pub returns-clause-points : goal.returns-clause-points
returns-clause-points c = union_points c.args.self c.args.other
