-- The table keeps an equal expression.
use Rattle.std.proofs.Common.{subst, ap}
use Rattle.decls.proofs.Common.{AConstant, view, no_words, entered, Shows}
use Rattle.decls.proofs.table.NameTable.declare_constant.Goals as goal

pub returns : goal.returns
returns c = λ m s sh.
    subst (λ n. Shows m c.enter.new.self (entered n c.args.name.now.place (AConstant (view c.args.value.now)) no_words s)) c.bytes.ensures
    (c.in_ok-enter.ensures m s (AConstant (view c.args.value.now)) (ap (λ e. AConstant (view e)) c.in_ok-copy.ensures) sh)
