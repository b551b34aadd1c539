-- Something is refused before the first of them.
use Rattle.std.proofs.Common.{sym, ◌∙◌}
use Rattle.decls.proofs.LeftOut.{behind_some}
use Rattle.decls.proofs.pass.Pass.stops_at_words.Goals as goal

pub returns-then-is_behind-clause-stops : goal.returns-then-is_behind-clause-stops
returns-then-is_behind-clause-stops c = λ e w s n a f.
    c.leave.ensures.left w s n (sym f.skips ∙ c.if-self.true)
    (λ h l. record { refused = behind_some c.args.self.now.table.fault _ (sym c.is_behind.ensures ∙ c.if-is_behind.true); adds = a (sym c.words_behind-behind.ensures ∙ h) }) f
