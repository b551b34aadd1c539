use Rattle.std.proofs.Common.{sym, Ok, Err, arith}
use Rattle.section_targets.proofs.Common.{err_from_is_err_and, arena}
use Rattle.section_targets.proofs.Built.{kept_inside, keeps_on}
use Rattle.section_targets.proofs.Gives.{one_kept, each_next, each_stops, each_none}
use Rattle.section_targets.proofs.giving.give_all.Goals as goal

pub give-requires-clause-guard : goal.give-requires-clause-guard
give-requires-clause-guard c = kept_inside _ _ c.args.giver.now.giving.guard.when c.loop-index.invariant.keeps c.requires.guard

pub give-requires-clause-bit : goal.give-requires-clause-bit
give-requires-clause-bit c = kept_inside _ _ _ c.loop-index.invariant.keeps (c.requires.bits c.loop-index.index _ (omega (arith, c.requires.each, c.loop-index-test.true)))

pub returns-in_err-give-clause-builds : goal.returns-in_err-give-clause-builds
returns-in_err-give-clause-builds c = λ d e.
    let p = err_from_is_err_and c.from_residual.result c.from_residual.ensures.1 in
    let fs = arena c.args.exprs.now in
    let g = c.args.giver.now.giving in
    rw (p.1, p.2)
    (c.loop-index.invariant.rest d _ (Err c.in_err-give.field-0.0) e
    (each_stops d fs g c.args.aims.now c.args.bits.now (sym c.requires.each) c.loop-index.index _ _ _ _ c.in_err-give.field-0.0 c.loop-index-test.true
    (one_kept d fs g _ _ _ _ (Err c.in_err-give.field-0.0) c.loop-index.invariant.keeps c.requires.guard (c.requires.bits c.loop-index.index _ (omega (arith, c.requires.each, c.loop-index-test.true))) (c.in_err-give.ensures.builds d e))))

pub returns-in_err-give-clause-keeps : goal.returns-in_err-give-clause-keeps
returns-in_err-give-clause-keeps c = keeps_on _ _ _ c.loop-index.invariant.keeps c.in_err-give.ensures.keeps

pub loop-index-init : goal.loop-index-init
loop-index-init c = record { keeps = λ i f e. e; rest = λ d new r e b. b }

pub loop-index-preserved : goal.loop-index-preserved
loop-index-preserved c =
    let fs = arena c.args.exprs.now in
    let g = c.args.giver.now.giving in
    record {
      keeps = keeps_on _ _ _ c.loop-index.invariant.keeps c.in_ok-give.ensures.keeps;
      rest = λ d new r e b.
          c.loop-index.invariant.rest d new r e
          (each_next d fs g c.args.aims.now c.args.bits.now (sym c.requires.each) c.loop-index.index _ _ _ _ new r c.loop-index-test.true
          (one_kept d fs g _ _ _ _ (Ok tt) c.loop-index.invariant.keeps c.requires.guard (c.requires.bits c.loop-index.index _ (omega (arith, c.requires.each, c.loop-index-test.true))) (c.in_ok-give.ensures.builds d e)) b);
    }

pub returns-clause-builds : goal.returns-clause-builds
returns-clause-builds c = λ d e.
    c.loop-index.invariant.rest d _ (Ok tt) e
    (each_none d (arena c.args.exprs.now) c.args.giver.now.giving c.args.aims.now c.args.bits.now (sym c.requires.each) c.loop-index.index _ c.loop-index-test.false)

pub returns-clause-keeps : goal.returns-clause-keeps
returns-clause-keeps c = c.loop-index.invariant.keeps
