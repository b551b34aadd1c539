-- A constant after names that were left out.
use Rattle.decls.proofs.Common.{view}
use Rattle.decls.proofs.Added.{adds_constant}
use Rattle.decls.proofs.pass.Pass.enter_constant.Goals as goal

pub returns-then-self : goal.returns-then-self
returns-then-self c = λ w s f.
    c.leave_at.ensures w s _ c.if-self.true (λ b. adds_constant c.args.self.now.table.fault c.args.name.now (view c.args.value.now) s b) f
