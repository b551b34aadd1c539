-- A use is passed over after names that were left out, and after the first refusal.
use Rattle.std.proofs.Common.{sym, ◌∙◌}
use Rattle.decls.proofs.Common.{refuse_all}
use Rattle.decls.proofs.Added.{adds_all}
use Rattle.decls.proofs.FirstStays.{at_behind}
use Rattle.decls.proofs.LeftOut.{passes_by}
use Rattle.decls.proofs.pass.Pass.passes.Goals as goal

pub returns-then-self-clause-passed : goal.returns-then-self-clause-passed
returns-then-self-clause-passed c = λ e w s fs a f.
    let o = c.args.self.now.table.fault in
    c.leave_at.ensures w s (refuse_all fs s) c.if-self.true (λ b. adds_all o s fs (at_behind o c.args.place fs b a)) f

pub returns-clause-passed : goal.returns-clause-passed
returns-clause-passed c = λ e w s fs a f.
    let o = c.args.self.now.table.fault in
    passes_by w c.args.self.now s fs (at_behind o c.args.place fs (sym c.is_behind.ensures ∙ e) a) f
