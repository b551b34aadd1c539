-- What is left out follows the first refusal, or the pass is lost.
use Rattle.std.proofs.Common.{true, refl}
use Rattle.decls.proofs.LeftOut.{leaves}
use Rattle.decls.proofs.pass.Pass.leave.Goals as goal

pub returns-else-not-behind-clause-left : goal.returns-else-not-behind-clause-left
returns-else-not-behind-clause-left c = λ w s n a may f.
    leaves w c.args.self.now (record c.args.self.now { skipped = true }) s n c.args.behind refl refl refl (λ h. (c.if-not-behind.false, h)) a may f
