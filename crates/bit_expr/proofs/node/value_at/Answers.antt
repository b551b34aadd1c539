use Rattle.std.proofs.Common.{sym}
use Rattle.bit_expr.proofs.Common.{shr_and_one, is_on-bits}
use Rattle.bit_expr.proofs.node.value_at.Goals as goal

pub returns : goal.returns
returns c = rw shr_and_one (sym (is_on-bits 128 c.args.values c.args.node c.requires))
