-- How a device's rows are looked at, pair by pair. These are private helpers: no public clause cites them.
use Rattle.std.specs.Prelude.{◌≡◌, ℕ, ◌+◌, ◌*◌, ◌<◌, Bool, not, ◌&&◌, ◌||◌, List, map, length}
use Rattle.device_logic.specs.Prelude.{range_with_len, is_on, Carry, Enable, Row, PinLow, Driven, Released, is_never_true, Table}
use Rattle.pld_device.specs.declared.carry.Carry.TheVariants as carry

-- the row can be true at some point, as far as its own fuses say
abbrev pub is_live : Table → List Bool → ℕ → Bool
is_live t fuses row = not (is_never_true t fuses row)

-- for each row of the array, whether it is live
abbrev pub live_rows : Table → List Bool → List Bool
live_rows t fuses = map (is_live t fuses) (range_with_len 0 t.rows)

-- the fuses of a device, and which of its rows are live
pub record IsArray (t : Table) (fuses lives : List Bool) : Type 0 where
  pub long : length fuses ≡ t.fuses
  pub live : lives ≡ live_rows t fuses

-- both columns of the pair are connected
abbrev pub is_whole : List Bool → ℕ → Bool
is_whole fuses pair = not (is_on fuses (2 * pair)) && not (is_on fuses (2 * pair + 1))

-- one of them is
abbrev pub is_connected : List Bool → ℕ → Bool
is_connected fuses pair = not (is_on fuses (2 * pair)) || not (is_on fuses (2 * pair + 1))

-- each of them that is connected carries 1
abbrev pub passes : (fuses values : List Bool) → ℕ → Bool
passes fuses values pair =
    (is_on fuses (2 * pair) || is_on values pair) && (is_on fuses (2 * pair + 1) || not (is_on values pair))

-- the row is one of the array, the pin one of a point
abbrev pub EnableInRange : Table → Enable → Type 0
EnableInRange t (Row row) = row < t.rows
EnableInRange t (PinLow pin) = pin < 32
EnableInRange t Driven = Unit {0}
EnableInRange t Released = Unit {0}

-- the pin is one of a point, the cell one of the device
abbrev pub CarryInRange : Table → Carry → Type 0
CarryInRange t (carry.Pin pin) = pin < 32
CarryInRange t (carry.Cell c) = c < length t.cells
