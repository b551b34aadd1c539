-- What a device's laws say of the numbers that its look-ups answer.
use Rattle.std.proofs.Common.{◌≡◌, ℕ, ◌+◌, ◌*◌, ◌≤◌, Some, slice_get, sym, subst, arith}
use Rattle.fuse_listing.proofs.Common.{le-mul_of_pos_right, mul_comm, get_or_from_slice_get, slice_get_within, Table, cell_at, no_cell, CarryIsThere}
use Rattle.pld_device.specs.declared.carry.Carry.{Carry}
use Rattle.pld_device.specs.declared.carry.Carry.TheVariants as carry
use Rattle.pld_device.specs.declared.cell.Cell.{Cell}
use Rattle.pld_device.specs.Laws.{IsPair, IsCell, IsDevice}

module _ (t : Table) (laws : IsDevice t) where
  pub carry_is_there : (pair : ℕ) (x : Carry) → slice_get t.pairs pair ≡ Some x → CarryIsThere t x
  carry_is_there pair x found = by_carry x (subst (IsPair t) (get_or_from_slice_get t.pairs pair x (carry.Pin 0) found) (laws.pairs pair (carry.Pin 0) (slice_get_within t.pairs pair x found)))
    where
      by_carry : (y : Carry) → IsPair t y → CarryIsThere t y
      by_carry (carry.Pin pin) law = tt
      by_carry (carry.Cell c) law = law

  pub cell_found : (c : ℕ) (x : Cell) → slice_get t.cells c ≡ Some x → x ≡ cell_at t c
  cell_found c x found = sym (get_or_from_slice_get t.cells c x no_cell found)

  -- an array with two columns or more has no more rows than fuses
  few_rows : t.rows ≤ 9999
  few_rows = by_columns t.columns t.rows laws.sizes.columns_low laws.sizes.array_fits
    where
      by_columns : (columns rows : ℕ) → 2 ≤ columns → columns * rows ≤ t.fuses → rows ≤ 9999
      by_columns columns rows some fits =
          let turned : rows * columns ≤ t.fuses = rw (mul_comm rows columns) fits in
          omega (arith, le-mul_of_pos_right {m = columns} rows (omega (arith, some)), turned, laws.sizes.fuses_high)

  pub cell_rows : (c : ℕ) (x : Cell) → slice_get t.cells c ≡ Some x → x.first + x.room ≤ 65535
  cell_rows c x found =
      let law : IsCell t x = subst (IsCell t) (get_or_from_slice_get t.cells c x no_cell found) (laws.cells c no_cell (slice_get_within t.cells c x found)) in
      omega (arith, law.data_below, few_rows)
