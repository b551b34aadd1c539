use Rattle.std.proofs.Common.{rules, ◌≡◌, ◌*◌, ◌^◌, ◌%◌, true, false}
use Rattle.covers.proofs.CubePoints.{literal_points}
use Rattle.covers.proofs.cube.Cube.literal.Goals as goal

pub returns-then-level-clause-points : goal.returns-then-level-clause-points
returns-then-level-clause-points c =
    let bit : 1 * 2 ^ c.args.variable % 4294967296 ≡ 2 ^ c.args.variable = search rules in
    rw (bit, c.if-level.true) (literal_points c.args.variable true)

pub returns-else-level-clause-points : goal.returns-else-level-clause-points
returns-else-level-clause-points c =
    let bit : 1 * 2 ^ c.args.variable % 4294967296 ≡ 2 ^ c.args.variable = search rules in
    rw (bit, c.if-level.false) (literal_points c.args.variable false)
