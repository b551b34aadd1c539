use Rattle.std.proofs.Common.{◌≡◌, Some, true, sym, ap, ◌∙◌, arith}
use Rattle.fit_plans.proofs.Common.{IsFixed, fuse_for, told_by}
use Rattle.fit_plans.proofs.ControlFuses.{found_fixed, no_fixed, one_more}
use Rattle.fit_plans.proofs.control_fuses.fixed_level.Goals as goal

pub loop-index-init : goal.loop-index-init
loop-index-init g c = record { none = λ k low. absurd (omega (arith, low)) }

pub returns-then-is_some-clause-found : goal.returns-then-is_some-clause-found
returns-then-is_some-clause-found g c =
    λ forms. found_fixed g.D.Device.table c.args.plan.now forms c.args.fuse c.loop-index.index c.told-level.result (c.told-level.ensures ∙ ap (λ bit. told_by bit c.args.fuse true) c.fixed.ensures)

pub loop-index-preserved : goal.loop-index-preserved
loop-index-preserved g c = record {
  none = one_more (λ k. fuse_for g.D.Device.table (IsFixed k) ≡ Some c.args.fuse → ⊥) c.loop-index.index c.loop-index.invariant.none
      (no_fixed g.D.Device.table c.args.fuse c.loop-index.index c.told-level.result (c.told-level.ensures ∙ ap (λ bit. told_by bit c.args.fuse true) c.fixed.ensures) (sym c.is_some.ensures ∙ c.if-is_some.false));
}

pub returns-clause-none : goal.returns-clause-none
returns-clause-none g c = λ is k low. c.loop-index.invariant.none k (omega (arith, low, c.loop-index-test.false))
