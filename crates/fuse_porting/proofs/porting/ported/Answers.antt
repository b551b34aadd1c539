use Rattle.std.proofs.Common.{◌≡◌, ◌<◌, ℕ, true, length}
use Rattle.pld_base.specs.Bits.{is_on}
use Rattle.fuse_porting.specs.Controls.{IsPortedLevel}
use Rattle.fuse_porting.specs.SameArray.{IsCarriedOver, polarity_fits}
use Rattle.fuse_porting.proofs.CarriedLogics.{carried_over}
use Rattle.fuse_porting.proofs.PortedFuses.{carried}
use Rattle.fuse_porting.proofs.porting.ported.Goals as goal

pub returns-clause-carried : goal.returns-clause-carried
returns-clause-carried g c =
    let f = g.F.Device.table in
    let t = g.T.Device.table in
    let a = c.args.fuses.now in
    let ps = c.in_ok-polarities.polarities.items in
    let levels : (n : ℕ) → n < t.fuses → IsPortedLevel f t a ps n (is_on c.in_ok-levels.levels.items n) = λ n low. rw (← c.levels.ensures, ← c.deref.ensures.value) (c.in_ok-levels.ensures.levels n low) in
    let fit : (k : ℕ) → k < length f.cells → polarity_fits f t a k (is_on ps k) ≡ true = λ k low. rw (← c.in_ok-array.ensures) (c.in_ok-polarities.ensures.fit k low) in
    let is : IsCarriedOver f t a c.in_ok-levels.levels.items =
    carried f t g.F.Device.sound g.T.Device.sound c.requires.array a ps c.in_ok-levels.levels.items c.requires.size c.in_ok-levels.ensures.size levels fit in
    rw c.from_levels.ensures is

pub returns-clause-same : goal.returns-clause-same
returns-clause-same g c =
    carried_over g.F.Device.table g.T.Device.table c.args.fuses.now c.from_levels.result g.F.Device.sound g.T.Device.sound c.requires.array (returns-clause-carried g c)
