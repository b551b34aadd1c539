-- Single wrong fuses, and which fuses can be wrong (this project's rule).
use Rattle.std.specs.Prelude.{ℕ, ◌*◌, nat_lt, ◌==◌, ◌||◌, not, Bool, false, Option, None, Some, List, length, set, filter, slice_get}
use Rattle.wrong_fuses.specs.Prelude.{is_on, list_any, range_with_len, Table, inverted_at, registered_at}
use Rattle.pld_device.specs.declared.fuse_bit.FuseBit.{FuseBit}

-- these fuses with the other level at fuse n
abbrev pub with_wrong : List Bool → ℕ → List Bool
with_wrong fuses n = set fuses n (not (is_on fuses n))

-- the entry names fuse n
abbrev pub names : ℕ → Option FuseBit → Bool
names n None = false
names n (Some bit) = bit.fuse == n

-- the switch is fuse n
abbrev pub switches_by : ℕ → Option ℕ → Bool
switches_by n None = false
switches_by n (Some fuse) = fuse == n

-- fuse n says the polarity or the kind of a cell
abbrev pub is_of_cell : Table → ℕ → Bool
is_of_cell t n =
    list_any (λ c. names n (inverted_at t c) || names n (registered_at t c)) (range_with_len 0 (length t.cells))

-- fuse n switches a row
abbrev pub is_switch : Table → ℕ → Bool
is_switch t n = list_any (λ row. switches_by n (slice_get t.row_switches row)) (range_with_len 0 t.rows)

-- the level of fuse n is the same in every design
abbrev pub is_fixed : Table → ℕ → Bool
is_fixed t n = list_any (λ index. names n (slice_get t.fixed index)) (range_with_len 0 16)

-- fuse n is one of the array or a control fuse: not one of a signature
abbrev pub is_fault : Table → ℕ → Bool
is_fault t n = nat_lt n (t.columns * t.rows) || (is_of_cell t n || (is_switch t n || is_fixed t n))

-- each fuse that can be wrong, in rising order
abbrev pub faults_of : Table → List ℕ
faults_of t = filter (is_fault t) (range_with_len 0 t.fuses)
