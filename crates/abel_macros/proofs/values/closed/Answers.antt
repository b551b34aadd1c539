-- The value precedes what follows the parenthesis.
use Rattle.std.proofs.Common.{None, Some}
use Rattle.abel_macros.proofs.Common.{ahead}
use Rattle.abel_macros.proofs.Operands.{closed_by}
use Rattle.abel_macros.proofs.values.closed.Goals as goal

pub returns-then-branch-clause-some : goal.returns-then-branch-clause-some
returns-then-branch-clause-some c = closed_by c.args.value (ahead c.args.at.now) (Some (ahead c.skip_sign.new.at)) (c.in_ok-skip_sign.ensures.yes c.if-branch.true)

pub returns-else-branch-clause-none : goal.returns-else-branch-clause-none
returns-else-branch-clause-none c = closed_by c.args.value (ahead c.args.at.now) None (c.in_ok-skip_sign.ensures.no c.if-branch.false)
