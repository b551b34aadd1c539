-- One span more.
use Rattle.std.proofs.Common.{◌++◌, sym, ap₂, ◌∙◌, arith}
use Rattle.decls.proofs.Common.{span_numbers}
use Rattle.decls.proofs.Folded.{counts_at, numbers_at, span_at}
use Rattle.decls.proofs.spans.numbers_in.Goals as goal

pub loop-span-preserved : goal.loop-span-preserved
loop-span-preserved c =
    let l = c.loop-span in
    let e = span_at c.args.spans.now l.span-index in
    record {
      numbers =
          c.in_ok-put_span.ensures
          ∙ (ap₂ (λ xs m. xs ++ span_numbers m e.first.value e.last) l.invariant.numbers l.invariant.left
          ∙ sym (numbers_at c.args.room c.args.spans.now l.span-index c.loop-span-test.true));
      left = omega (arith, c.saturating_sub-left.ensures, c.span_count.ensures.count, l.invariant.left, counts_at c.args.spans.now l.span-index c.loop-span-test.true);
    }
