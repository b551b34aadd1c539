-- A register's bit, and a match after it.
use Rattle.state_diagrams.proofs.Common.{err_from_is_err_and, arena, formula_at, view_guard, kept_formula, kept_inside, keeps_on, at, guard_kept}
use Rattle.state_diagrams.proofs.GoalWorks.{register_given, register_stops}
use Rattle.state_diagrams.proofs.goals.give_register.Goals as goal

pub give_output-requires-clause-bit : goal.give_output-requires-clause-bit
give_output-requires-clause-bit c = kept_inside _ _ c.args.goal.guard.when c.in_ok-give.ensures.keeps c.requires.guard

pub returns-in_err-give-clause-gives : goal.returns-in_err-give-clause-gives
returns-in_err-give-clause-gives c = λ d e.
    let p = err_from_is_err_and c.from_residual.result c.from_residual.ensures.1 in
    let fs = arena c.args.out.now.exprs in
    rw (p.1, p.2)
    (register_stops d (view_guard fs c.args.goal.guard) c.args.goal.place c.args.aim (formula_at fs c.args.bit) (at c.args.out.now.exprs c.args.out.now.list.items) (at c.give.new.exprs c.give.new.list.items) c.in_err-give.field-0.0 (c.in_err-give.ensures.builds d e))

pub returns-clause-keeps : goal.returns-clause-keeps
returns-clause-keeps c = keeps_on _ _ _ c.in_ok-give.ensures.keeps c.give_output.ensures.keeps

pub returns-clause-gives : goal.returns-clause-gives
returns-clause-gives c = λ d e.
    let fs = arena c.args.out.now.exprs in
    let hs = arena c.give.new.exprs in
    register_given d (view_guard fs c.args.goal.guard) (view_guard hs c.args.goal.guard) c.args.goal.place c.args.aim (formula_at fs c.args.bit) (at c.args.out.now.exprs c.args.out.now.list.items) (at c.give.new.exprs c.give.new.list.items) (at c.give_output.new.exprs c.give_output.new.list.items) c.give_output.result
    (guard_kept fs hs c.args.goal.guard (kept_formula fs hs c.args.goal.guard.when c.in_ok-give.ensures.keeps c.requires.guard))
    (c.in_ok-give.ensures.builds d e) (c.give_output.ensures.gives d e)
