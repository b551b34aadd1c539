-- A span of two ends.
use Rattle.std.proofs.Common.{◌++◌, ap, sym, ◌∙◌}
use Rattle.decls.proofs.Common.{on_ok_weaker, span_numbers}
use Rattle.decls.proofs.Folded.{ranged}
use Rattle.decls.proofs.spans.put_span.Goals as goal

pub returns-in-Some : goal.returns-in-Some
returns-in-Some c =
    on_ok_weaker c.put_range.result
    (λ h.
    h
    ∙ (ap (λ xs. c.args.numbers.now.items ++ xs) (ranged c.args.room c.args.span.now.first.value c.in-Some.last)
    ∙ ap (λ o. c.args.numbers.now.items ++ span_numbers c.args.room c.args.span.now.first.value o) (sym c.in-Some.is)))
    c.put_range.ensures
