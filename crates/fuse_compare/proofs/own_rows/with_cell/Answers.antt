use Rattle.fuse_compare.proofs.Common.{IfOk-weaker, Cell, enabled_by, MakesCell, MakesSame, some_row, Group}
use Rattle.std.proofs.Common.{subst}
use Rattle.fuse_compare.proofs.Covered.{makes_cell}
use Rattle.fuse_compare.proofs.own_rows.with_cell.Goals as goal

pub returns : goal.returns
returns g c =
    let t = g.D.Device.table in
    let a = c.args.a.now.fuses in
    let b = c.args.b.now.fuses in
    let own = c.args.own.items in
    let mid = c.in_ok-enabled.enabled.items in
    let found = c.cell_of-found.ensures.found in
    let enable = subst (λ (cell : Cell). MakesSame (λ at. enabled_by t a at cell.enable) (λ at. enabled_by t b at cell.enable) own mid) found c.in_ok-enabled.ensures in
    let rows : Cell → Group = λ cell. record { first = cell.first; room = cell.room } in
    IfOk-weaker c.with_rows.result (λ more. MakesSame (some_row t a (rows c.cell_of-found.result)) (some_row t b (rows c.cell_of-found.result)) mid more.items)
    (λ more. MakesCell t a b c.args.cell own more.items)
    (λ more is. makes_cell t a b c.args.cell own mid more.items enable
    (subst (λ (cell : Cell). MakesSame (some_row t a (rows cell)) (some_row t b (rows cell)) mid more.items) found is))
    c.with_rows.ensures
