-- Both ends are runs of digits after one stem.
use Rattle.std.proofs.Common.{◌++◌, map, sym, ap, ap₂, ◌∙◌}
use Rattle.name_uses.proofs.Common.{decimal, bytes_eq, numbers_between, name_items}
use Rattle.name_uses.proofs.Digits.{agreed}
use Rattle.name_uses.proofs.ranges.names_of_range.Goals as goal

pub returns-then-is_same : goal.returns-then-is_same
returns-then-is_same c =
    agreed c.args.first.now c.args.last.now c.in-Some.from c.in-Some-end_value.to (map name_items c.in_ok-names.names.items)
    (sym c.end_value.ensures.value ∙ c.in-Some.is) (sym c.end_value-2.ensures.value ∙ c.in-Some-end_value.is)
    (ap₂ bytes_eq (sym c.stem_of.ensures) (sym c.stem_of-2.ensures) ∙ (sym c.is_same.ensures ∙ c.if-is_same.true))
    (c.in_ok-names.ensures ∙ ap (λ s. map (λ k. s ++ decimal k) (numbers_between c.in-Some.from c.in-Some-end_value.to)) c.stem_of-then-is_same.ensures)
