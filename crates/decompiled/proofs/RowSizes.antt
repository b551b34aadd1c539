-- A row of the array has two fuses for each pair.
use Rattle.std.proofs.Common.{◌≡◌, ℕ, suc, ◌+◌, ◌*◌, ◌-◌, ◌<◌, ◌≤◌, Bool, List, length, drop, arith, length-drop}
use Rattle.decompiled.proofs.Common.{length-take, IsDevice, row_fuses, Table}
use Rattle.std.proofs.Math.Nat.{mul-le-mul_left}

pub row_size : (t : Table) (fuses : List Bool) (row : ℕ) → IsDevice t → length fuses ≡ t.fuses → row < t.rows → length (row_fuses t fuses row) ≡ 2 * length t.pairs
row_size t fuses row laws long within =
    let below : t.columns * suc row ≤ t.columns * t.rows = mul-le-mul_left t.columns (omega arith) in
    omega (
      arith,
      below,
      laws.sizes.array_fits,
      laws.sizes.columns_even,
      length-take (t.columns * row + t.columns - t.columns * row) (drop (t.columns * row) fuses),
      length-drop (t.columns * row) fuses,
    )
