use Rattle.std.proofs.Common.{◌≡◌, ◌<◌, Some, length, sym, ap, ◌∙◌, arith}
use Rattle.std.proofs.lemmas.List.{get_or_default}
use Rattle.pld_base.specs.Bits.{is_on}
use Rattle.pld_device.specs.Laws.{Inverts, fuse_for, fuse_if_any}
use Rattle.fuse_porting.specs.Controls.{told_by}
use Rattle.fuse_porting.proofs.ControlFuses.{found_inverted, none_by, one_more}
use Rattle.fuse_porting.proofs.control.cell_level.Goals as goal

pub loop-index-init : goal.loop-index-init
loop-index-init g c = record { none = λ k low. absurd (omega (arith, low)) }

pub returns-then-is_some-clause-found : goal.returns-then-is_some-clause-found
returns-then-is_some-clause-found g c =
    let within : c.from.result < length c.args.polarities.now = omega (arith, c.from.ensures, c.requires, c.loop-index-test.true, c.loop-index.auto.index-end, c.cells-index-end.ensures) in
    found_inverted g.T.Device.table c.args.polarities.now c.args.fuse c.loop-index.index c.inverted_at.result c.told-level.result c.inverted_at.ensures
    (c.told-level.ensures ∙ ap (told_by c.inverted_at.result c.args.fuse) (get_or_default c.args.polarities.now c.from.result _ _ within ∙ ap (is_on c.args.polarities.now) c.from.ensures))

pub loop-index-preserved : goal.loop-index-preserved
loop-index-preserved g c = record {
  none = one_more (λ k. fuse_for g.T.Device.table (Inverts k) ≡ Some c.args.fuse → ⊥) c.loop-index.index c.loop-index.invariant.none
      (λ at. none_by c.inverted_at.result c.args.fuse _ c.told-level.result c.told-level.ensures (sym c.is_some.ensures ∙ c.if-is_some.false) (ap fuse_if_any c.inverted_at.ensures ∙ at));
}

pub returns-clause-none : goal.returns-clause-none
returns-clause-none g c =
    λ is k low. c.loop-index.invariant.none k (omega (arith, low, c.loop-index.auto.index-end, c.loop-index-test.false, c.cells-index-end.ensures))
