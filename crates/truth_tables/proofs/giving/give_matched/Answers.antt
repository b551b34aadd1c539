-- What is given, and a match after it.
use Rattle.std.proofs.Common.{[], ◌∷◌}
use Rattle.truth_tables.proofs.Common.{arena, at, builds_stop, err_from_is_err_and, given_output, kept_formula, kept_inside}
use Rattle.set_expr.specs.declared.contributions.Gives.TheVariants as gives
use Rattle.truth_tables.proofs.GivenLaws.{match_given}
use Rattle.truth_tables.proofs.giving.give_matched.Goals as goal

pub give_output-requires-2-clause-bit : goal.give_output-requires-2-clause-bit
give_output-requires-2-clause-bit c = kept_inside _ _ c.args.matching.now.bit c.in_ok-give_output.ensures.keeps c.requires.bit

pub returns-in_err-give_output-clause-gives : goal.returns-in_err-give_output-clause-gives
returns-in_err-give_output-clause-gives c = λ d e.
    let p = err_from_is_err_and c.from_residual.result c.from_residual.ensures.1 in
    let m = c.args.matching.now in
    let a = c.args.aim in
    rw (p.1, p.2)
    (builds_stop [] [] _ (given_output d (arena c.args.exprs.now) m.assigning gives.Match a m.bit ∷ []) (a.place ∷ []) (a.place ∷ []) (at c.args.exprs.now c.args.list.now.items) (at c.give_output.new.exprs c.give_output.new.list.items)
    c.in_err-give_output.field-0.0 (c.in_err-give_output.ensures.gives d e))

pub returns-clause-gives : goal.returns-clause-gives
returns-clause-gives c = λ d e.
    let m = c.args.matching.now in
    match_given d m.assigning c.args.what c.args.aim m.bit (at c.args.exprs.now c.args.list.now.items) (at c.give_output.new.exprs c.give_output.new.list.items) (at c.give_output-2.new.exprs c.give_output-2.new.list.items) c.give_output-2.result
    (kept_formula _ _ m.bit c.in_ok-give_output.ensures.keeps c.requires.bit) (c.in_ok-give_output.ensures.gives d e) (c.give_output-2.ensures.gives d e)
