-- One pin more.
use Rattle.std.proofs.Common.{ℕ, filter, map, not, ap, ◌∙◌, arith}
use Rattle.std.proofs.lemmas.List.{take_all}
use Rattle.abel_meaning.specs.SignalPins.{is_taken}
use Rattle.abel_tree.specs.Entries.{view_declared}
use Rattle.model_choice.proofs.Passed.{passed_more}
use Rattle.model_choice.proofs.cells.untaken.Goals as goal

pub loop-pin-preserved : goal.loop-pin-preserved
loop-pin-preserved c =
    let l = c.loop-pin in
    passed_more (λ (pin : ℕ). not (is_taken (map view_declared c.args.names.now) pin)) c.args.pins.now l.free.items _ l.pin-index 0 (not c.is_taken.result)
    c.loop-pin-test.true (ap not c.is_taken.ensures) l.invariant c.in_ok-add_if.ensures

pub returns : goal.returns
returns c =
    let l = c.loop-pin in
    l.invariant ∙ ap (filter (λ (pin : ℕ). not (is_taken (map view_declared c.args.names.now) pin))) (take_all l.pin-index c.args.pins.now (omega (arith, c.loop-pin-test.false)))
