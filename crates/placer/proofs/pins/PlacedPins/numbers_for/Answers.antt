-- If there are numbers, they stay.
use Rattle.std.proofs.Common.{◌==◌, List, length, map, sym, ap, ◌∙◌}
use Rattle.placer.proofs.Common.{IfOk-weaker, Span, view_declared, pin_given}
use Rattle.placer.proofs.Items.{given_stand, none_given}
use Rattle.placer.proofs.pins.PlacedPins.numbers_for.Goals as goal

pub returns-then-is_empty : goal.returns-then-is_empty
returns-then-is_empty c =
    let none = ap (λ (xs : List Span). length xs == 0) (sym c.as_slice.ensures) ∙ (sym c.is_empty.ensures ∙ c.if-is_empty.true) in
    IfOk-weaker c.spans_for.result _ _
    (λ l is. is ∙ sym (none_given (pin_given (map view_declared c.args.names.now) c.args.self.now) c.args.items.now c.args.numbers none)) c.spans_for.ensures

pub returns-else-is_empty : goal.returns-else-is_empty
returns-else-is_empty c =
    let some = ap (λ (xs : List Span). length xs == 0) (sym c.as_slice.ensures) ∙ (sym c.is_empty.ensures ∙ c.if-is_empty.false) in
    sym (given_stand (pin_given (map view_declared c.args.names.now) c.args.self.now) c.args.items.now c.args.numbers some)
