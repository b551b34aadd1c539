use Rattle.std.proofs.Common.{◌≡◌, false, length, sym, ◌∙◌, below_more, arith}
use Rattle.device_logic.proofs.Runs.{any_at, any_none}
use Rattle.page_model.specs.Idle.{is_clocked}
use Rattle.page_model.proofs.pin_facts.is_some_clocked.Goals as goal

pub returns-then-is_clocked : goal.returns-then-is_clocked
returns-then-is_clocked g c =
    let t = g.D.Device.table in
    sym (any_at (is_clocked t c.args.array.now) 0 (length t.cells) c.loop-cell.cell (omega arith) (omega (arith)) (sym c.is_clocked.ensures ∙ c.if-is_clocked.true))

pub loop-cell-preserved : goal.loop-cell-preserved
loop-cell-preserved g c =
    below_more (λ k. is_clocked g.D.Device.table c.args.array.now k ≡ false) c.loop-cell.cell c.loop-cell.invariant
    (sym c.is_clocked.ensures ∙ c.if-is_clocked.false)

pub returns : goal.returns
returns g c =
    let t = g.D.Device.table in
    sym (any_none (is_clocked t c.args.array.now) 0 (length t.cells) (λ k first low. c.loop-cell.invariant k (omega (arith, low))))
