-- What holds of every row of every device.
use Rattle.std.specs.Prelude.{◌≡◌, ℕ, ◌*◌, ◌<◌, ◌≤◌, Bool, true, false, List, length}
use Rattle.pld_base.specs.Bits.{is_on}
use Rattle.pld_base.specs.Points.{Levels}
use Rattle.pld_device.specs.Table.{Table}
use Rattle.pld_device.specs.Rows.{pair_values, row_value}
use Rattle.pld_device.specs.Reads.{row_reads}

-- each column whose fuse is 0 carries 1
abbrev pub CarriesAll : (fuses columns : List Bool) → Type 0
CarriesAll fuses columns =
    (k : ℕ) → k < length fuses → k < length columns → is_on fuses k ≡ false → is_on columns k ≡ true

-- each pair that the row reads carries the same value at both points
abbrev pub ReadsSame : Table → List Bool → ℕ → (a b : Levels) → Type 0
ReadsSame t fuses row a b =
    (pair : ℕ) → row_reads t fuses row pair ≡ true
    → is_on (pair_values t fuses a) pair ≡ is_on (pair_values t fuses b) pair

-- at points at which it reads the same, a row has the same value
abbrev pub AreToldByReads : Table → Type 0
AreToldByReads t =
    (fuses : List Bool) (row : ℕ) (a b : Levels) → ReadsSame t fuses row a b
    → row_value t fuses a row ≡ row_value t fuses b row

-- the array has no more columns than the pairs have
abbrev pub HasPairs : Table → Type 0
HasPairs t = t.columns ≤ 2 * length t.pairs
