-- Where numbers are missing, nothing is known.
use Rattle.std.proofs.Common.{sym, ◌∙◌}
use Rattle.decls.proofs.pass.Pass.is_short.Goals as goal

pub returns-then-count-left-clause-lost : goal.returns-then-count-left-clause-lost
returns-then-count-left-clause-lost c = λ e w s n f.
    c.leave.ensures.left w s n (sym f.skips ∙ c.if-self.true) (λ h l. absurd cc) f
