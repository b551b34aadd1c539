use Rattle.std.proofs.Common.{◌≡◌, Some, is_some, sym, ap, ◌∙◌, arith}
use Rattle.fit_plans.proofs.Common.{Switches, fuse_for}
use Rattle.fit_plans.proofs.ControlFuses.{one_more, switch_is, switch_is_not}
use Rattle.fit_plans.proofs.control_fuses.switch_level.Goals as goal

pub loop-row-init : goal.loop-row-init
loop-row-init g c = record { none = λ k low. absurd (omega (arith, low)) }

pub returns-then-eq-clause-found : goal.returns-then-eq-clause-found
returns-then-eq-clause-found g c =
    λ forms. (Switches c.loop-row.row, sym c.row_switch.ensures ∙ switch_is c.row_switch.result c.args.fuse (sym c.eq.ensures ∙ c.if-eq.true), c.is_some.ensures ∙ ap is_some c.planned.ensures)

pub loop-row-preserved : goal.loop-row-preserved
loop-row-preserved g c = record {
  none = one_more (λ k. fuse_for g.D.Device.table (Switches k) ≡ Some c.args.fuse → ⊥) c.loop-row.row c.loop-row.invariant.none
      (λ at. switch_is_not c.row_switch.result c.args.fuse (sym c.eq.ensures ∙ c.if-eq.false) (c.row_switch.ensures ∙ at));
}

pub returns-clause-none : goal.returns-clause-none
returns-clause-none g c =
    λ is k low. c.loop-row.invariant.none k (omega (arith, low, c.loop-row.auto.row-end, c.loop-row-test.false, c.rows-row-end.ensures))
