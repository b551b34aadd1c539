-- One position more, and all positions.
use Rattle.std.proofs.Common.{[], Ok, Err, length, refl, sym, subst, true, arith}
use Rattle.truth_tables.proofs.Common.{err_from_is_err_and, arena, high_bit, keeps_longer, literals, Const, ExprId, Formula}
use Rattle.truth_tables.proofs.ProductLaws.{LiteralsLeft, after_at, in_at, in_longer, literals_done}
use Rattle.truth_tables.proofs.inputs.row_product.Goals as goal

pub loop-index-init : goal.loop-index-init
loop-index-init c =
    let ns = c.args.exprs.now in
    let one : ExprId = record { 0 = 1 } in
    let bit = high_bit ns one refl in
    let all = λ (f : Formula). literals (arena ns) f c.args.header.now c.args.levels.now in
    record {
      inside = bit.0;
      positions = c.requires;
      left = subst (λ f. LiteralsLeft ns ns c.args.unit (all (Const true)) (all f)) (sym bit.1) (λ later r b w. (b, w));
    }

pub with_position-requires-clause-position : goal.with_position-requires-clause-position
with_position-requires-clause-position c =
    in_at (length (arena c.loop-index.exprs)) c.args.header.now c.loop-index.index (omega (arith, c.loop-index-test.true, c.min-count.ensures)) c.loop-index.invariant.positions

pub loop-index-preserved : goal.loop-index-preserved
loop-index-preserved c =
    let i = c.loop-index.invariant in
    record {
      inside = c.in_ok-found.ensures.bit.0;
      positions = in_longer _ _ c.args.header.now (keeps_longer _ _ (c.in_ok-found.ensures.builds []).made.grew.keeps) i.positions;
      left = after_at c.args.exprs.now c.loop-index.exprs c.with_position.new.exprs c.args.unit _ _ c.args.header.now c.args.levels.now c.loop-index.index (Ok c.in_ok-found.found)
          (omega (arith, c.loop-index-test.true, c.min-count.ensures)) i.positions i.left c.in_ok-found.ensures.builds c.in_ok-found.ensures.bit;
    }

pub returns-in_err-found-clause-builds : goal.returns-in_err-found-clause-builds
returns-in_err-found-clause-builds c = λ list.
    let p = err_from_is_err_and c.from_residual.result c.from_residual.ensures.1 in
    let i = c.loop-index.invariant in
    rw (p.1, p.2)
    (after_at c.args.exprs.now c.loop-index.exprs c.with_position.new.exprs c.args.unit _ _ c.args.header.now c.args.levels.now c.loop-index.index (Err c.in_err-found.field-0.0)
    (omega (arith, c.loop-index-test.true, c.min-count.ensures)) i.positions i.left c.in_err-found.ensures.builds tt list)

pub returns-clause-builds : goal.returns-clause-builds
returns-clause-builds c =
    (literals_done c.args.exprs.now c.loop-index.exprs c.args.unit c.loop-index.found _ c.args.header.now c.args.levels.now c.loop-index.index (omega (arith, c.loop-index-test.false, c.min-count.ensures)) c.loop-index.invariant.inside c.loop-index.invariant.left).0

pub returns-clause-bit : goal.returns-clause-bit
returns-clause-bit c =
    (literals_done c.args.exprs.now c.loop-index.exprs c.args.unit c.loop-index.found _ c.args.header.now c.args.levels.now c.loop-index.index (omega (arith, c.loop-index-test.false, c.min-count.ensures)) c.loop-index.invariant.inside c.loop-index.invariant.left).1
