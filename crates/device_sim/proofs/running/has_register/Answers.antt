use Rattle.std.proofs.Common.{sym, ◌∙◌, arith}
use Rattle.device_sim.proofs.Common.{any_at, any_none}
use Rattle.device_sim.proofs.running.has_register.Goals as goal

pub returns-then-stores : goal.returns-then-stores
returns-then-stores g c =
    let m = g.L.Logic.meaning c.args.logic.now in
    sym (any_at m.stores 0 m.cells c.loop-cell.cell (omega arith) (omega arith) (sym c.stores.ensures ∙ c.if-stores.true))

pub returns : goal.returns
returns g c =
    let m = g.L.Logic.meaning c.args.logic.now in
    sym (any_none m.stores 0 m.cells (λ k low high. c.loop-cell.invariant k (omega (arith, high))))
