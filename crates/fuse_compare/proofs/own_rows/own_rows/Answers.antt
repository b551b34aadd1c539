use Rattle.fuse_compare.proofs.Common.{IfOk-weaker, row_if_any, cases_lt, preset_if_any, reset_if_any, AreOwn, MakesSame, SameCell}
use Rattle.std.proofs.Common.{◌≡◌, ℕ, ◌<◌, length, subst, sym, ◌∙◌, arith, inl, inr}
use Rattle.fuse_compare.proofs.Covered.{all_own, cell_longer}
use Rattle.fuse_compare.proofs.own_rows.own_rows.Goals as goal

pub loop-cell-preserved : goal.loop-cell-preserved
loop-cell-preserved g c = λ d low.
    let t = g.D.Device.table in
    elim (cases_lt d c.loop-cell.cell) [
      | inl earlier ↦ cell_longer t c.args.a.now.fuses c.args.b.now.fuses d c.loop-cell.own.items c.in_ok-own.own.items c.in_ok-own.ensures.longer (c.loop-cell.invariant d earlier)
      | inr last ↦
          let same : d ≡ c.loop-cell.cell = omega (arith, low, last) in
          subst (λ n. SameCell t c.args.a.now.fuses c.args.b.now.fuses c.in_ok-own.own.items n) (sym same) c.in_ok-own.ensures.cell
    ]

pub with_row_if_any-requires-clause-within : goal.with_row_if_any-requires-clause-within
with_row_if_any-requires-clause-within g c = rw c.reset.ensures (reset_if_any g.D.Device.table g.D.Device.sound)

pub with_row_if_any-requires-2-clause-within : goal.with_row_if_any-requires-2-clause-within
with_row_if_any-requires-2-clause-within g c = rw c.preset.ensures (preset_if_any g.D.Device.table g.D.Device.sound)

pub returns : goal.returns
returns g c =
    let t = g.D.Device.table in
    let a = c.args.a.now.fuses in
    let b = c.args.b.now.fuses in
    let own = c.loop-cell.own.items in
    let mid = c.in_ok-with_reset.with_reset.items in
    let cells : (d : ℕ) → d < length t.cells → SameCell t a b own d =
    λ d low. c.loop-cell.invariant d (omega (arith, low, c.loop-cell-test.false, c.cells-cell-end.ensures)) in
    let reset : MakesSame (λ at. row_if_any t a at t.reset) (λ at. row_if_any t b at t.reset) own mid =
    subst (λ row. MakesSame (λ at. row_if_any t a at row) (λ at. row_if_any t b at row) own mid) c.reset.ensures c.in_ok-with_reset.ensures in
    IfOk-weaker c.with_row_if_any-2.result (λ more. MakesSame (λ at. row_if_any t a at c.preset.result) (λ at. row_if_any t b at c.preset.result) mid more.items)
    (λ more. AreOwn t a b more.items)
    (λ more is. all_own t a b own mid more.items cells reset
    (subst (λ row. MakesSame (λ at. row_if_any t a at row) (λ at. row_if_any t b at row) mid more.items) c.preset.ensures is))
    c.with_row_if_any-2.ensures
