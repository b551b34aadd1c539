use Rattle.std.proofs.Common.{sym, ◌∙◌}
use Rattle.fit_plans.proofs.OwnedRows.{owner_start, owner_next, owner_data, owner_enable}
use Rattle.fit_plans.proofs.plan.owner_of.Goals as goal

pub loop-index-init : goal.loop-index-init
loop-index-init g c = record { rest = owner_start g.D.Device.table c.args.row }

pub returns-then-is_data : goal.returns-then-is_data
returns-then-is_data g c =
    sym (owner_data g.D.Device.table c.loop-index.index c.args.row c.cell-cell.result c.cell-cell.ensures (sym c.is_data.ensures ∙ c.if-is_data.true)) ∙ c.loop-index.invariant.rest

pub returns-then-enables : goal.returns-then-enables
returns-then-enables g c =
    sym (owner_enable g.D.Device.table c.loop-index.index c.args.row c.cell-cell.result c.cell-cell.ensures (sym c.is_data.ensures ∙ c.if-is_data.false) (sym c.enables.ensures ∙ c.if-enables.true)) ∙ c.loop-index.invariant.rest

pub loop-index-preserved : goal.loop-index-preserved
loop-index-preserved g c =
    record { rest = sym (owner_next g.D.Device.table c.loop-index.index c.args.row c.cell-cell.result c.cell-cell.ensures (sym c.is_data.ensures ∙ c.if-is_data.false) (sym c.enables.ensures ∙ c.if-enables.false)) ∙ c.loop-index.invariant.rest }
