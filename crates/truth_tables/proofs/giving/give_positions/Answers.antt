-- One position more, and all positions.
use Rattle.std.proofs.Common.{◌<◌, Ok, Err, min, length, drop, arith}
use Rattle.truth_tables.proofs.Common.{err_from_is_err_and, arena, kept_formula, kept_inside, keeps_on, at, matched_guard, length-drop}
use Rattle.truth_tables.proofs.GivenLaws.{named_at, positions_none, positions_step_at}
use Rattle.truth_tables.proofs.WorkLaws.{left_done}
use Rattle.truth_tables.proofs.giving.give_positions.Goals as goal

pub give_position-requires-clause-signal : goal.give_position-requires-clause-signal
give_position-requires-clause-signal c = named_at _ c.args.outputs.now c.loop-index.index (omega (arith, c.loop-index-test.true, c.min-count.ensures)) c.requires.signals

pub give_position-requires-clause-bit : goal.give_position-requires-clause-bit
give_position-requires-clause-bit c = kept_inside _ _ c.args.matching.now.bit c.loop-index.invariant.0 c.requires.bit

pub loop-index-preserved : goal.loop-index-preserved
loop-index-preserved c =
    let m = c.args.matching.now in
    let fs = arena c.args.exprs.now in
    let lt : c.loop-index.index < min (length c.args.outputs.now) (length c.args.levels.now) = omega (arith, c.loop-index-test.true, c.min-count.ensures) in (
      keeps_on _ _ _ c.loop-index.invariant.0 c.in_ok-give_position.ensures.keeps,
      λ d e. positions_step_at d m.assigning.guard m.assigning.clocked m.bit c.loop-index.index c.args.outputs.now c.args.levels.now fs (at c.args.exprs.now c.args.list.now.items) (at c.loop-index.exprs c.loop-index.list.items) (at c.give_position.new.exprs c.give_position.new.list.items) (Ok tt)
          lt (kept_formula fs (arena c.loop-index.exprs) m.bit c.loop-index.invariant.0 c.requires.bit) (c.loop-index.invariant.1 d e) (c.in_ok-give_position.ensures.gives d e),
    )

pub returns-in_err-give_position-clause-gives : goal.returns-in_err-give_position-clause-gives
returns-in_err-give_position-clause-gives c = λ d e.
    let p = err_from_is_err_and c.from_residual.result c.from_residual.ensures.1 in
    let m = c.args.matching.now in
    let fs = arena c.args.exprs.now in
    let lt : c.loop-index.index < min (length c.args.outputs.now) (length c.args.levels.now) = omega (arith, c.loop-index-test.true, c.min-count.ensures) in
    rw (p.1, p.2)
    (positions_step_at d m.assigning.guard m.assigning.clocked m.bit c.loop-index.index c.args.outputs.now c.args.levels.now fs (at c.args.exprs.now c.args.list.now.items) (at c.loop-index.exprs c.loop-index.list.items) (at c.give_position.new.exprs c.give_position.new.list.items) (Err c.in_err-give_position.field-0.0)
    lt (kept_formula fs (arena c.loop-index.exprs) m.bit c.loop-index.invariant.0 c.requires.bit) (c.loop-index.invariant.1 d e) (c.in_err-give_position.ensures.gives d e))

pub returns-clause-gives : goal.returns-clause-gives
returns-clause-gives c = λ d e.
    let m = c.args.matching.now in
    let h = matched_guard (arena c.args.exprs.now) m.assigning.guard m.bit in
    let i = c.loop-index.index in
    let xs = c.args.outputs.now in
    let ls = c.args.levels.now in
    left_done _ _ (at c.args.exprs.now c.args.list.now.items) (at c.loop-index.exprs c.loop-index.list.items)
    (positions_none d h m.assigning.clocked (drop i xs) (drop i ls) (omega (arith, length-drop i xs, length-drop i ls, c.loop-index-test.false, c.min-count.ensures))) (c.loop-index.invariant.1 d e)
