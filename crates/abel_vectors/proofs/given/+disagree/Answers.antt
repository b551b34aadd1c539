use Rattle.std.proofs.Common.{◌||◌, sym, ap, ◌∙◌}
use Rattle.abel_vectors.proofs.Common.{disagree}
use Rattle.abel_vectors.proofs.given.+disagree.Goals as goal

pub returns-then-is_contradicted : goal.returns-then-is_contradicted
returns-then-is_contradicted t c =
    let here = sym c.is_contradicted.ensures ∙ c.if-is_contradicted.true in
    c.if-is_contradicted.true ∙ sym (ap disagree c.in-Some.ensures.cases.0 ∙ ap (λ b. b || disagree c.in-Some.behind.now) here)

pub returns-else-is_contradicted : goal.returns-else-is_contradicted
returns-else-is_contradicted t c =
    let here = sym c.is_contradicted.ensures ∙ c.if-is_contradicted.false in
    c.disagree.ensures ∙ sym (ap disagree c.in-Some.ensures.cases.0 ∙ ap (λ b. b || disagree c.in-Some.behind.now) here)
