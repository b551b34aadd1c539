-- One output more, and all outputs.
use Rattle.std.proofs.Common.{Ok, Err, refl, ap, arith}
use Rattle.truth_tables.proofs.Common.{err_from_is_err_and, arena, keeps_on, low_bit, at, view_guard, drop_all}
use Rattle.truth_tables.proofs.GivenLaws.{named_at, no_step_at, no_work}
use Rattle.truth_tables.proofs.WorkLaws.{left_done}
use Rattle.truth_tables.proofs.giving.give_no_matches.Goals as goal

pub give_position-requires-clause-signal : goal.give_position-requires-clause-signal
give_position-requires-clause-signal c = named_at _ c.args.outputs.now c.loop-index.index c.loop-index-test.true c.requires

pub give_position-requires-clause-bit : goal.give_position-requires-clause-bit
give_position-requires-clause-bit c = (low_bit c.loop-index.exprs (record { 0 = 0 }) refl).0

pub loop-index-preserved : goal.loop-index-preserved
loop-index-preserved c = (
  keeps_on _ _ _ c.loop-index.invariant.0 c.in_ok-give_position.ensures.keeps,
  λ d e. no_step_at d c.args.assigning.guard c.args.assigning.clocked (record { 0 = 0 }) c.loop-index.index c.args.outputs.now (arena c.args.exprs.now) (at c.args.exprs.now c.args.list.now.items) (at c.loop-index.exprs c.loop-index.list.items) (at c.give_position.new.exprs c.give_position.new.list.items) (Ok tt)
      c.loop-index-test.true refl (c.loop-index.invariant.1 d e) (c.in_ok-give_position.ensures.gives d e),
)

pub returns-in_err-give_position-clause-gives : goal.returns-in_err-give_position-clause-gives
returns-in_err-give_position-clause-gives c = λ d e.
    let p = err_from_is_err_and c.from_residual.result c.from_residual.ensures.1 in
    rw (p.1, p.2)
    (no_step_at d c.args.assigning.guard c.args.assigning.clocked (record { 0 = 0 }) c.loop-index.index c.args.outputs.now (arena c.args.exprs.now) (at c.args.exprs.now c.args.list.now.items) (at c.loop-index.exprs c.loop-index.list.items) (at c.give_position.new.exprs c.give_position.new.list.items) (Err c.in_err-give_position.field-0.0)
    c.loop-index-test.true refl (c.loop-index.invariant.1 d e) (c.in_err-give_position.ensures.gives d e))

pub returns-clause-gives : goal.returns-clause-gives
returns-clause-gives c = λ d e.
    left_done _ _ (at c.args.exprs.now c.args.list.now.items) (at c.loop-index.exprs c.loop-index.list.items)
    (ap (no_work d (view_guard (arena c.args.exprs.now) c.args.assigning.guard) c.args.assigning.clocked) (drop_all c.loop-index.index c.args.outputs.now (omega (arith, c.loop-index-test.false)))) (c.loop-index.invariant.1 d e)
