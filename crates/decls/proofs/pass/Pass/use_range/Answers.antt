-- A range that is passed over.
use Rattle.std.proofs.Common.{subst}
use Rattle.decls.proofs.Common.{ends_agree, Follows}
use Rattle.decls.proofs.FirstStays.{range_refusals, range_over, at_range}
use Rattle.decls.proofs.pass.Pass.use_range.Goals as goal

pub returns-then-passes : goal.returns-then-passes
returns-then-passes c = λ w s f.
    let x = c.args.first.now in
    let y = c.args.last.now in
    let b = ends_agree x.text y.text in
    subst (Follows w c.passes.new.self) (range_over b s x y) (c.passes.ensures.passed c.if-passes.true w s (range_refusals b s x y) (at_range b s x y) f)
