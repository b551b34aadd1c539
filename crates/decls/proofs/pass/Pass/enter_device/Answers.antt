-- A device after names that were left out.
use Rattle.decls.proofs.Added.{adds_device}
use Rattle.decls.proofs.pass.Pass.enter_device.Goals as goal

pub returns-then-self : goal.returns-then-self
returns-then-self c = λ w s f.
    c.leave_at.ensures w s _ c.if-self.true (λ b. adds_device c.args.self.now.table.fault c.args.name.now s b) f
