use Rattle.std.proofs.Common.{slice_get, sym, ◌∙◌, arith}
use Rattle.wrong_fuses.proofs.Common.{any_at, any_none, switches_by}
use Rattle.wrong_fuses.proofs.faults.is_switch.Goals as goal

pub returns-then-switches : goal.returns-then-switches
returns-then-switches g c =
    let t = g.D.Device.table in
    sym (any_at (λ d. switches_by c.args.fuse (slice_get t.row_switches d)) 0 t.rows c.loop-row.row (omega arith)
    (omega (arith, c.loop-row-test.true, c.rows-row-end.ensures)) (sym c.switches.ensures ∙ c.if-switches.true))

pub returns : goal.returns
returns g c =
    let t = g.D.Device.table in
    sym (any_none (λ d. switches_by c.args.fuse (slice_get t.row_switches d)) 0 t.rows
    (λ k low high. c.loop-row.invariant k (omega (arith, high, c.loop-row-test.false, c.rows-row-end.ensures))))
