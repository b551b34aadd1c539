use Rattle.std.proofs.Common.{slice_get, sym, ◌∙◌, arith, ap}
use Rattle.wrong_fuses.proofs.Common.{any_at, any_none, names}
use Rattle.wrong_fuses.proofs.faults.is_fixed.Goals as goal

pub returns-then-names : goal.returns-then-names
returns-then-names g c =
    let t = g.D.Device.table in
    sym (any_at (λ d. names c.args.fuse (slice_get t.fixed d)) 0 16 c.loop-index.index (omega arith) (omega (arith, c.loop-index-test.true))
    (ap (names c.args.fuse) (sym c.fixed.ensures) ∙ (sym c.names.ensures ∙ c.if-names.true)))

pub returns : goal.returns
returns g c =
    let t = g.D.Device.table in
    sym (any_none (λ d. names c.args.fuse (slice_get t.fixed d)) 0 16 (λ k low high. c.loop-index.invariant k (omega (arith, high, c.loop-index-test.false))))
