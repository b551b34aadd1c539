-- One pin more.
use Rattle.std.proofs.Common.{ℕ, filter, ap, ◌∙◌, arith}
use Rattle.std.proofs.lemmas.List.{take_all}
use Rattle.pld_base.specs.Bits.{same_level}
use Rattle.pld_base.specs.Models.{middle_pins}
use Rattle.pld_order.specs.Members.{has}
use Rattle.model_choice.proofs.Passed.{passed_more}
use Rattle.model_choice.proofs.cells.middle_or_others.Goals as goal

pub loop-pin-preserved : goal.loop-pin-preserved
loop-pin-preserved c =
    let l = c.loop-pin in
    passed_more (λ (pin : ℕ). same_level c.args.is_middle (has (middle_pins c.args.top) pin)) c.args.pins.now l.list.items _ l.pin-index 0 c.is_on_side.result
    c.loop-pin-test.true c.is_on_side.ensures l.invariant c.in_ok-add_if.ensures

pub returns : goal.returns
returns c =
    let l = c.loop-pin in
    l.invariant ∙ ap (filter (λ (pin : ℕ). same_level c.args.is_middle (has (middle_pins c.args.top) pin))) (take_all l.pin-index c.args.pins.now (omega (arith, c.loop-pin-test.false)))
