use Rattle.std.proofs.Common.{arith}
use Rattle.covers.proofs.Literals.{larger_below, larger_grows, literal_gone}
use Rattle.covers.proofs.expand.expanded_at.Goals as goal

pub is_allowed-requires-clause-cube : goal.is_allowed-requires-clause-cube
is_allowed-requires-clause-cube c = rw (c.without-larger.ensures, c.literal.ensures.is) (larger_below c.args.vars c.args.tried.variable c.args.tried.level c.args.cube c.requires.cube)

pub returns-then-is_allowed-clause-below : goal.returns-then-is_allowed-clause-below
returns-then-is_allowed-clause-below c = rw (c.without-larger.ensures, c.literal.ensures.is) (larger_below c.args.vars c.args.tried.variable c.args.tried.level c.args.cube c.requires.cube)

pub returns-then-is_allowed-clause-grows : goal.returns-then-is_allowed-clause-grows
returns-then-is_allowed-clause-grows c = rw (c.without-larger.ensures, c.literal.ensures.is) (larger_grows c.args.vars c.args.tried.variable c.args.tried.level c.args.cube (omega arith) c.requires.variable)

pub returns-then-is_allowed-clause-tried : goal.returns-then-is_allowed-clause-tried
returns-then-is_allowed-clause-tried c = rw (c.without-larger.ensures, c.literal.ensures.is) (λ is all. literal_gone c.args.vars c.args.tried.variable c.args.tried.level c.args.cube (omega arith) c.requires.variable is)
