-- One name more.
use Rattle.std.proofs.Common.{[], ◌∷◌, ◌++◌, map, take, sym, ap, ap₂, ◌∙◌, arith}
use Rattle.placer.proofs.Common.{take_all, view_declared, view_given, pin_given, span_at, spans_for}
use Rattle.placer.proofs.Mapped.{mapped_more}
use Rattle.placer.proofs.Items.{spans_push}
use Rattle.placer.proofs.pins.PlacedPins.spans_of.Goals as goal

pub loop-one-preserved : goal.loop-one-preserved
loop-one-preserved c =
    let l = c.loop-one in
    let pin = pin_given (map view_declared c.args.names.now) c.args.self.now in
    c.in_ok-push.ensures.items
    ∙ (ap₂ (λ xs x. xs ++ x ∷ []) l.invariant (c.span_at.ensures ∙ ap (span_at c.one-item.result.place) c.number_of-number.ensures)
    ∙ sym (ap (spans_for pin) (mapped_more view_given c.args.given.now l.one-index c.one-item.result c.loop-one-test.true c.one-item.is)
    ∙ spans_push pin (map view_given (take l.one-index c.args.given.now)) (view_given c.one-item.result)))

pub returns : goal.returns
returns c =
    let l = c.loop-one in
    let pin = pin_given (map view_declared c.args.names.now) c.args.self.now in
    c.from_vec.ensures ∙ (l.invariant ∙ ap (λ xs. spans_for pin (map view_given xs)) (take_all l.one-index c.args.given.now (omega (arith, c.loop-one-test.false))))
