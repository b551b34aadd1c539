-- The first pair with both columns connected decides.
use Rattle.std.proofs.Common.{◌≡◌, ◌<◌, ◌/◌, false, true, sym, ◌∙◌, arith}
use Rattle.fuse_forms.proofs.Below.{each_where, not_each_where}
use Rattle.fuse_forms.specs.Warnings.{is_open_at}
use Rattle.fuse_forms.proofs.warnings.is_row_possible.Goals as goal

pub returns-then-not-is_open : goal.returns-then-not-is_open
returns-then-not-is_open g c =
    let low : c.loop-pair.pair < g.D.Device.table.columns / 2 = rw (← c.pairs-pair-end.ensures) c.loop-pair-test.true in
    let here : is_open_at g.D.Device.table c.args.levels.now c.args.row c.loop-pair.pair ≡ false = rw (← c.first_of-first.ensures.first, ← c.from.ensures) (sym c.is_open.ensures ∙ c.if-not-is_open.true) in
    sym (not_each_where (g.D.Device.table.columns / 2) c.loop-pair.pair (is_open_at g.D.Device.table c.args.levels.now c.args.row) low here)

pub returns : goal.returns
returns g c =
    sym (each_where (g.D.Device.table.columns / 2) (is_open_at g.D.Device.table c.args.levels.now c.args.row)
    (λ k low. c.loop-pair.invariant k (let size = c.pairs-pair-end.ensures in omega (arith, low, size, c.loop-pair-test.false))))
