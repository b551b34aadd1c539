use Rattle.std.proofs.Common.{sym, ◌∙◌, arith}
use Rattle.fit_plans.proofs.Common.{IsNoCells}
use Rattle.fit_plans.proofs.ControlFuses.{found_inverted, found_registered, no_cells, one_more}
use Rattle.fit_plans.proofs.control_fuses.cell_level.Goals as goal

pub loop-index-init : goal.loop-index-init
loop-index-init g c = record { none = λ k low. absurd (omega (arith, low)) }

pub returns-then-is_some-clause-found : goal.returns-then-is_some-clause-found
returns-then-is_some-clause-found g c =
    found_inverted g.D.Device.table c.args.plan.now c.args.forms.now c.args.fuse c.loop-index.index c.inverted_at.result c.told-inverted.result c.inverted_at.ensures c.told-inverted.ensures

pub returns-then-is_some-2-clause-found : goal.returns-then-is_some-2-clause-found
returns-then-is_some-2-clause-found g c =
    found_registered g.D.Device.table c.args.plan.now c.args.forms.now c.args.fuse c.loop-index.index c.registered_at.result c.told-registered.result c.registered_at.ensures c.told-registered.ensures

pub loop-index-preserved : goal.loop-index-preserved
loop-index-preserved g c = record {
  none = one_more (IsNoCells g.D.Device.table c.args.fuse) c.loop-index.index c.loop-index.invariant.none
      (no_cells g.D.Device.table c.args.plan.now c.args.forms.now c.args.fuse c.loop-index.index c.inverted_at.result c.registered_at.result c.told-inverted.result c.told-registered.result
      c.inverted_at.ensures c.told-inverted.ensures (sym c.is_some.ensures ∙ c.if-is_some.false) c.registered_at.ensures c.told-registered.ensures (sym c.is_some-in-loop-index.ensures ∙ c.if-is_some-2.false));
}

pub returns-clause-none : goal.returns-clause-none
returns-clause-none g c =
    λ is k low. c.loop-index.invariant.none k (omega (arith, low, c.loop-index.auto.index-end, c.loop-index-test.false, c.cells-index-end.ensures))
