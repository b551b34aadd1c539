-- A declaration after names that were left out.
use Rattle.std.proofs.Common.{sym, ◌∙◌}
use Rattle.decls.proofs.Common.{items_behind, words_behind}
use Rattle.decls.proofs.FirstStays.{head_all, tail_all}
use Rattle.decls.proofs.pass.Pass.leave_out.Goals as goal

pub returns : goal.returns
returns c = λ w s n k a f.
    let x = items_behind c.args.self.now.table.fault c.args.names.now in
    let y = words_behind c.args.self.now.table.fault c.args.attributes.now in
    c.leave.ensures.left w s n (f.allowed k)
    (λ h l. let both = sym c.declaration_behind-behind.ensures ∙ h in record { refused = f.refused k l; adds = a (head_all x y both) (tail_all x y both) }) f
