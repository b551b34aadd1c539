-- The rows that hold a rising cover are in order.
use Rattle.std.proofs.Common.{◌≡◌, ℕ, zero, suc, ◌+◌, ◌<◌, ◌≤◌, Bool, List, length, get_or, slice_get, Some, refl, ap, ◌∙◌, arith}
use Rattle.fitter.proofs.Common.{list_any, get_or-map-range_with_len, slice_get-get_or, is_on, row_fuses, Table, cell_at, Cube, full_cube, HoldsCubes, fuse_at, row_of, AreRowsInOrder, fuse_number, Rises, row_number}
use Rattle.fitter.proofs.PlannedRows.{IsSingle, row_used, zeros_unused}

-- a column's fuse in the row of a cube
row_fuse : (t : Table) (c : Cube) (column : ℕ) → column < t.columns → is_on (row_of t c) column ≡ fuse_at c column
unfolding row_of
row_fuse t c column low = get_or-map-range_with_len (fuse_at c) 0 t.columns column column _ low (omega arith)

-- the number of a row is that of its cube
cube_number : (t : Table) (c : Cube) (n : ℕ) → n ≤ t.columns → fuse_number n (row_of t c) ≡ row_number n c
unfolding fuse_number row_number
cube_number t c zero few = refl
cube_number t c (suc n) few = rw (cube_number t c n (omega (arith, few)), row_fuse t c n (omega (arith, few))) refl

module _ (t : Table) (fuses : List Bool) (c : ℕ) (cubes : List Cube) (some : 2 ≤ t.columns) (holds : HoldsCubes t fuses (cell_at t c).first (cell_at t c).room cubes)
    (single : (i : ℕ) (d : Cube) → slice_get cubes i ≡ Some d → IsSingle d) (rise : Rises t.columns cubes) where
  number_at : (i : ℕ) → i < length cubes → fuse_number t.columns (row_fuses t fuses ((cell_at t c).first + i)) ≡ row_number t.columns (get_or cubes i full_cube)
  number_at i low = ap (fuse_number t.columns) (holds.rows i low) ∙ cube_number t (get_or cubes i full_cube) t.columns (omega arith)

  pub rows_in_order : AreRowsInOrder t fuses c
  rows_in_order = record {
    count = length cubes;
    few = holds.fit;
    used = λ i low. ap (list_any (λ (b : Bool). b)) (holds.rows i low) ∙ row_used t (get_or cubes i full_cube) some (single i (get_or cubes i full_cube) (slice_get-get_or cubes i full_cube low));
    rise = λ i low.
        let here = number_at i (omega (arith, low)) in
        let next = number_at (i + 1) low in
        let below = rise i (i + 1) full_cube (omega arith) low in
        omega (arith, here, next, below);
    rest = λ i past low. ap (list_any (λ (b : Bool). b)) (holds.rest i past low) ∙ zeros_unused t;
  }
