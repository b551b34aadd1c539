use Rattle.std.proofs.Common.{◌≡◌, ◌+◌, Bool, true, false, List, [], ◌∷◌, ℕ, refl, ap, ◌∙◌, arith, flat_map, map, filter}
use Rattle.decompiler.proofs.Common.{range_with_len, Table, is_never_true, control_products, product_of}
use Rattle.device_logic.specs.Array.{is_live}
use Rattle.decompiler.proofs.Ranges.{more_given}
use Rattle.decompiler.proofs.device_fuses.DeviceFuses.data_sum.Goals as goal

-- the products of rows are those of the live ones
live_products : (t : Table) (fuses : List Bool) (rows : List ℕ) → flat_map (control_products t fuses) rows ≡ map (product_of t fuses) (filter (is_live t fuses) rows)
live_products t fuses [] = refl
live_products t fuses (row ∷ rows) = by_row (is_never_true t fuses row) refl (live_products t fuses rows)
  where
    by_row : (dead : Bool) → is_never_true t fuses row ≡ dead → flat_map (control_products t fuses) rows ≡ map (product_of t fuses) (filter (is_live t fuses) rows) → flat_map (control_products t fuses) (row ∷ rows) ≡ map (product_of t fuses) (filter (is_live t fuses) (row ∷ rows))
    by_row true is later = rw is later
    by_row false is later = rw is (ap (λ ps. product_of t fuses row ∷ ps) later)

pub loop-offset-preserved : goal.loop-offset-preserved
loop-offset-preserved g c =
    more_given (control_products g.D.Device.table c.args.self.now) c.args.cell.now.first c.loop-offset.offset _ c.loop-offset.products.items _
    c.loop-offset.invariant c.in_ok-push_if_live.ensures (ap (λ n. c.args.cell.now.first + n) c.from.ensures)

pub returns : goal.returns
returns g c =
    let t = g.D.Device.table in
    let end : c.loop-offset.offset ≡ c.args.cell.now.room = omega (arith, c.loop-offset-test.false, c.loop-offset.auto.offset-end) in
    c.from_vec.ensures ∙ c.loop-offset.invariant
    ∙ (rw end (live_products t c.args.self.now (range_with_len c.args.cell.now.first c.args.cell.now.room)))
