use Rattle.std.proofs.Common.{refl}
use Rattle.section_targets.proofs.Common.{err_from_is_err_and, arena}
use Rattle.section_targets.proofs.Gives.{stops_nodes, memory_after, given_after}
use Rattle.section_targets.proofs.giving.give.Goals as goal

pub returns-in_err-when-clause-builds : goal.returns-in_err-when-clause-builds
returns-in_err-when-clause-builds c = λ d e.
    let p = err_from_is_err_and c.from_residual.result c.from_residual.ensures.1 in
    rw (p.1, p.2) (stops_nodes _ _ _ _ _ c.in_err-when.field-0.0 (c.in_err-when.ensures.builds c.args.list.now.items))

pub returns-in_err-push-clause-builds : goal.returns-in_err-push-clause-builds
returns-in_err-push-clause-builds c = λ d e.
    let p = err_from_is_err_and c.from_residual-in_err-push.result c.from_residual-in_err-push.ensures.1 in
    rw (p.1, p.2) (memory_after _ _ _ _ _ _ _ c.in_err-push.ensures.items (c.in_ok-when.ensures.builds c.args.list.now.items))

pub returns-clause-builds : goal.returns-clause-builds
returns-clause-builds c = λ d e.
    let free = c.is_free.ensures d (arena c.args.exprs.now) e in
    given_after _ _ _ _ _ _ _ _ (c.in_ok-when.ensures.builds c.args.list.now.items) c.in_ok-push.ensures.items c.in_ok-when.ensures.bit.0 (rw (free, c.in_ok-when.ensures.bit.1) refl) refl

pub returns-in_err-when-clause-keeps : goal.returns-in_err-when-clause-keeps
returns-in_err-when-clause-keeps c = (c.in_err-when.ensures.builds c.args.list.now.items).1.keeps

pub returns-in_err-push-clause-keeps : goal.returns-in_err-push-clause-keeps
returns-in_err-push-clause-keeps c = (c.in_ok-when.ensures.builds c.args.list.now.items).made.grew.keeps

pub returns-clause-keeps : goal.returns-clause-keeps
returns-clause-keeps c = (c.in_ok-when.ensures.builds c.args.list.now.items).made.grew.keeps
