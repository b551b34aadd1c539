use Rattle.fuse_compare.proofs.Common.{IfOk-weaker, Covers, MakesSame, some_row}
use Rattle.fuse_compare.proofs.Covered.{covers_both}
use Rattle.fuse_compare.proofs.own_rows.with_rows.Goals as goal

pub returns : goal.returns
returns g c =
    let t = g.D.Device.table in
    let a = c.args.a.now.fuses in
    let b = c.args.b.now.fuses in
    let own = c.args.own.items in
    let mid = c.in_ok-covered.covered.items in
    IfOk-weaker c.with_own-2.result (λ more. Covers t b a c.args.rows mid more.items) (λ more. MakesSame (some_row t a c.args.rows) (some_row t b c.args.rows) own more.items)
    (λ more is. covers_both t a b c.args.rows own mid more.items c.in_ok-covered.ensures is) c.with_own-2.ensures
