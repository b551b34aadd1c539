use Rattle.std.proofs.Common.{◌≡◌, Some, refl, sym, ◌∙◌, arith}
use Rattle.pld_device.specs.Laws.{Switches, fuse_for}
use Rattle.fuse_porting.proofs.ControlFuses.{one_more, switch_is, switch_is_not}
use Rattle.fuse_porting.proofs.control.switch_level.Goals as goal

pub loop-row-init : goal.loop-row-init
loop-row-init g c = record { none = λ k low. absurd (omega (arith, low)) }

pub returns-then-eq-clause-found : goal.returns-then-eq-clause-found
returns-then-eq-clause-found g c =
    λ ps. (Switches c.loop-row.row, sym c.row_switch.ensures ∙ switch_is c.row_switch.result c.args.fuse (sym c.eq.ensures ∙ c.if-eq.true), refl)

pub loop-row-preserved : goal.loop-row-preserved
loop-row-preserved g c = record {
  none = one_more (λ k. fuse_for g.T.Device.table (Switches k) ≡ Some c.args.fuse → ⊥) c.loop-row.row c.loop-row.invariant.none
      (λ at. switch_is_not c.row_switch.result c.args.fuse (sym c.eq.ensures ∙ c.if-eq.false) (c.row_switch.ensures ∙ at));
}

pub returns-clause-none : goal.returns-clause-none
returns-clause-none g c =
    λ is k low. c.loop-row.invariant.none k (omega (arith, low, c.loop-row.auto.row-end, c.loop-row-test.false, c.rows-row-end.ensures))
