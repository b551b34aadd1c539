-- Both ends are runs of digits after one stem.
use Rattle.std.proofs.Common.{◌+◌, sym, ap, ap₂, ◌∙◌}
use Rattle.name_uses.proofs.Common.{bytes_eq}
use Rattle.name_uses.proofs.Digits.{counted_range}
use Rattle.name_uses.proofs.ranges.range_count.Goals as goal

pub returns-then-has_names : goal.returns-then-has_names
returns-then-has_names c =
    counted_range c.args.first.now c.args.last.now c.in-Some.from c.in-Some-end_value.to _
    (sym c.end_value.ensures.value ∙ c.in-Some.is) (sym c.end_value-2.ensures.value ∙ c.in-Some-end_value.is)
    (ap₂ bytes_eq (sym c.stem_of.ensures) (sym c.stem_of-2.ensures) ∙ (sym c.is_same-has_names.ensures ∙ c.if-has_names.true))
    (ap (λ n. n + 1) c.steps_between.ensures.steps)
