use Rattle.std.proofs.Common.{arith}
use Rattle.fitter.proofs.Common.{arena_count}
use Rattle.fitter.proofs.evaluating.last_of.Goals as goal

pub loop-function-init : goal.loop-function-init
loop-function-init c = record { inside = omega (arith, arena_count c.args.net.now.exprs); each = λ n low. absurd (omega (arith, low)) }
