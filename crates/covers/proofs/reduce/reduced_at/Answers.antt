use Rattle.std.proofs.Common.{true, false}
use Rattle.covers.proofs.Common.{literal_cube}
use Rattle.covers.proofs.CubeBits.{literal_below}
use Rattle.covers.proofs.CommonPoints.{union_below}
use Rattle.covers.proofs.reduce.reduced_at.Goals as goal

pub covers_needed-requires-clause-cube : goal.covers_needed-requires-clause-cube
covers_needed-requires-clause-cube c = rw (c.union-one.ensures.is, c.literal.ensures.is)
    (union_below c.args.vars c.args.cube (literal_cube c.args.variable true) c.requires.cube (literal_below c.args.variable c.args.vars true c.requires.variable))

pub returns-then-covers_needed-clause-below : goal.returns-then-covers_needed-clause-below
returns-then-covers_needed-clause-below c = rw (c.union-zero.ensures.is, c.literal-2.ensures.is)
    (union_below c.args.vars c.args.cube (literal_cube c.args.variable false) c.requires.cube (literal_below c.args.variable c.args.vars false c.requires.variable))

pub covers_needed-requires-2-clause-cube : goal.covers_needed-requires-2-clause-cube
covers_needed-requires-2-clause-cube c = rw (c.union-zero.ensures.is, c.literal-2.ensures.is)
    (union_below c.args.vars c.args.cube (literal_cube c.args.variable false) c.requires.cube (literal_below c.args.variable c.args.vars false c.requires.variable))

pub returns-then-covers_needed-2-clause-below : goal.returns-then-covers_needed-2-clause-below
returns-then-covers_needed-2-clause-below c = rw (c.union-one.ensures.is, c.literal.ensures.is)
    (union_below c.args.vars c.args.cube (literal_cube c.args.variable true) c.requires.cube (literal_below c.args.variable c.args.vars true c.requires.variable))
