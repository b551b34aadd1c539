use Rattle.std.proofs.Common.{bit_and, eqb, eq-eqb}
use Rattle.covers.proofs.Common.{and_from}
use Rattle.covers.proofs.CubePoints.{lies_in_points}
use Rattle.covers.proofs.cube.Cube.lies_in.Goals as goal

pub returns-then-self-outer-clause-points : goal.returns-then-self-outer-clause-points
returns-then-self-outer-clause-points c = λ is p. lies_in_points c.args.self c.args.outer p
    (and_from (eqb (bit_and c.args.self.yes c.args.outer.yes) c.args.outer.yes) (eqb (bit_and c.args.self.no c.args.outer.no) c.args.outer.no) (eq-eqb _ _ c.if-self-outer.true) is)
