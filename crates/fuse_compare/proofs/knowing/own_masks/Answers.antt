use Rattle.std.proofs.Common.{refl}
use Rattle.fuse_compare.proofs.Common.{IfOk-weaker, device_lookups, DifferWithin, AreOwn}
use Rattle.fuse_compare.proofs.Covered.{within_own}
use Rattle.fuse_compare.proofs.Uncut.{within_full}
use Rattle.fuse_compare.proofs.knowing.own_masks.Goals as goal

pub returns-then-has_same_kinds : goal.returns-then-has_same_kinds
returns-then-has_same_kinds g c =
    let t = g.D.Device.table in
    let a = c.args.a.now in
    let b = c.args.b.now in
    IfOk-weaker c.own_rows.result (λ own. AreOwn t a.fuses b.fuses own.items)
    (λ own. DifferWithin (device_lookups t a.fuses a.order) (device_lookups t b.fuses b.order) own.items)
    (λ own are. within_own t a.fuses b.fuses a.order b.order own.items (c.has_same_kinds.ensures c.if-has_same_kinds.true) are) c.own_rows.ensures

pub returns : goal.returns
returns g c =
    let a = c.args.a.now in
    let b = c.args.b.now in
    within_full (device_lookups g.D.Device.table a.fuses a.order) (device_lookups g.D.Device.table b.fuses b.order) c.full.result c.push.new.self.items c.full.ensures
    (rw (c.in_ok-push.ensures.items, c.new-own.ensures.items) refl)
