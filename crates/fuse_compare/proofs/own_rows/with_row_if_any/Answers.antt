use Rattle.fuse_compare.proofs.Common.{IfOk-weaker, row_value, MakesSame, some_row}
use Rattle.fuse_compare.proofs.Covered.{one_row}
use Rattle.fuse_compare.proofs.own_rows.with_row_if_any.Goals as goal

pub returns-in-Some : goal.returns-in-Some
returns-in-Some g c =
    let t = g.D.Device.table in
    let a = c.args.a.now.fuses in
    let b = c.args.b.now.fuses in
    let row = c.in-Some.first in
    let own = c.args.own.items in
    rw c.in-Some.is
    (IfOk-weaker c.with_rows.result (λ more. MakesSame (some_row t a (record { first = row; room = 1 })) (some_row t b (record { first = row; room = 1 })) own more.items)
    (λ more. MakesSame (λ at. row_value t a at row) (λ at. row_value t b at row) own more.items)
    (λ more is. one_row t a b row own more.items is) c.with_rows.ensures)
