-- A name after names that were left out.
use Rattle.std.proofs.Common.{sym, ◌∙◌}
use Rattle.decls.proofs.pass.Pass.leave_at.Goals as goal

pub returns : goal.returns
returns c = λ w s n k a f.
    c.leave.ensures.left w s n (f.allowed k) (λ h l. record { refused = f.refused k l; adds = a (sym c.is_behind-behind.ensures ∙ h) }) f
