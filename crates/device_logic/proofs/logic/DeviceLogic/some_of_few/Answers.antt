use Rattle.std.proofs.Common.{sym, ◌∙◌, arith}
use Rattle.device_logic.proofs.Common.{levels_of, row_value}
use Rattle.device_logic.proofs.Runs.{any_at, any_none}
use Rattle.device_logic.proofs.logic.DeviceLogic.some_of_few.Goals as goal

pub returns-then-holds_at : goal.returns-then-holds_at
returns-then-holds_at g c =
    sym (any_at (row_value g.D.Device.table c.args.self.now.fuses (levels_of c.args.at.now)) c.args.first c.args.few c.loop-row.row (omega arith) (omega arith) (sym c.holds_at.ensures ∙ c.if-holds_at.true))

pub returns : goal.returns
returns g c = sym (any_none (row_value g.D.Device.table c.args.self.now.fuses (levels_of c.args.at.now)) c.args.first c.args.few (λ k low high. c.loop-row.invariant k low (omega (arith, high))))
