-- A name that is passed over.
use Rattle.std.proofs.Common.{subst}
use Rattle.decls.proofs.Common.{Follows}
use Rattle.decls.proofs.FirstStays.{name_refusals, name_used, at_name}
use Rattle.decls.proofs.pass.Pass.use_name.Goals as goal

pub returns-then-passes : goal.returns-then-passes
returns-then-passes c = λ w s f.
    let x = c.args.word.now in
    subst (Follows w c.passes.new.self) (name_used s x) (c.passes.ensures.passed c.if-passes.true w s (name_refusals s x) (at_name s x) f)
