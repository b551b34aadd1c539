-- The first row that can be true decides.
use Rattle.std.proofs.Common.{true, sym, ◌∙◌, arith}
use Rattle.fuse_forms.proofs.Below.{not_some_where, some_where}
use Rattle.fuse_forms.specs.Warnings.{is_row_possible}
use Rattle.fuse_forms.proofs.warnings.is_row_in_use.Goals as goal

pub returns-then-is_row_possible : goal.returns-then-is_row_possible
returns-then-is_row_possible g c =
    sym (some_where g.D.Device.table.rows c.loop-row.row (is_row_possible g.D.Device.table c.args.levels.now)
    (rw (← c.rows-row-end.ensures) c.loop-row-test.true)
    (sym c.is_row_possible.ensures ∙ c.if-is_row_possible.true))

pub returns : goal.returns
returns g c =
    sym (not_some_where g.D.Device.table.rows (is_row_possible g.D.Device.table c.args.levels.now)
    (λ k low. c.loop-row.invariant k (let size = c.rows-row-end.ensures in omega (arith, low, c.loop-row-test.false, size))))
