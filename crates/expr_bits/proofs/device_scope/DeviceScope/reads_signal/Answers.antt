-- The rows of all names.
use Rattle.std.proofs.Common.{sym, subst}
use Rattle.expr_bits.proofs.Common.{take-length, Names, entries_of, context_for, ASignal, AreRows}
use Rattle.expr_bits.proofs.device_scope.DeviceScope.reads_signal.Goals as goal

pub returns : goal.returns
returns g c =
    let n = c.args.self.now in
    let d = context_for g.D.Device.table n in
    let rows = subst (λ (m : Names). AreRows (entries_of m) d 0 c.rows.result.now) (sym c.self.view_is) c.rows.ensures.rows in
    rw (c.self.view_is, c.rows.ensures.all, take-length (entries_of n)) at (c.in_ok-reads.ensures d rows ASignal)
