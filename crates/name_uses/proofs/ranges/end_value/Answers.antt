-- The digits follow the stem.
use Rattle.std.proofs.Common.{Some, None, if◌then◌else◌, ap, ◌∙◌}
use Rattle.name_uses.proofs.Common.{is_run, number_of}
use Rattle.name_uses.proofs.Digits.{digits_sliced}
use Rattle.name_uses.proofs.ranges.end_value.Goals as goal

pub returns-clause-value : goal.returns-clause-value
returns-clause-value c =
    c.run_value.ensures.value
    ∙ ap (λ ds. if is_run ds then Some (number_of ds) else None)
    (digits_sliced c.args.name.now c.digits_at_end.result c.digits_at_end.ensures.count)
