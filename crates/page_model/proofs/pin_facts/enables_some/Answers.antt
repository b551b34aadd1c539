use Rattle.std.proofs.Common.{◌≡◌, false, length, sym, ◌∙◌, below_more, arith}
use Rattle.device_logic.proofs.Runs.{any_at, any_none}
use Rattle.page_model.specs.Pins.{is_enabled_low}
use Rattle.page_model.proofs.pin_facts.enables_some.Goals as goal

pub returns-then-is_enabled_low : goal.returns-then-is_enabled_low
returns-then-is_enabled_low g c =
    let t = g.D.Device.table in
    sym (any_at (is_enabled_low t c.args.pin) 0 (length t.cells) c.loop-cell.cell (omega arith) (omega (arith)) (sym c.is_enabled_low.ensures ∙ c.if-is_enabled_low.true))

pub loop-cell-preserved : goal.loop-cell-preserved
loop-cell-preserved g c =
    below_more (λ k. is_enabled_low g.D.Device.table c.args.pin k ≡ false) c.loop-cell.cell c.loop-cell.invariant
    (sym c.is_enabled_low.ensures ∙ c.if-is_enabled_low.false)

pub returns : goal.returns
returns g c =
    let t = g.D.Device.table in
    sym (any_none (is_enabled_low t c.args.pin) 0 (length t.cells) (λ k first low. c.loop-cell.invariant k (omega (arith, low))))
