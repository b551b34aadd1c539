-- Steps of the decompiler. These are private helpers: no public clause cites them.
use Rattle.std.specs.Prelude.{◌≡◌, ℕ, ◌+◌, ◌*◌, Bool, true, false, Option, None, Some, List, [], ◌∷◌, ◌++◌, length, map, slice_get, if◌then◌else◌}
use Rattle.decompiler.specs.Prelude.{list_any, is_on, Table, PinLiteral, named, names_pin, pin_line}
use Rattle.pld_device.specs.declared.carry.Carry.{Carry}
use Rattle.decompiled.specs.declared.pin_line.PinLine.{PinLine}
use Rattle.decompiled.specs.declared.sum_line.SumLine.{SumLine}
use Rattle.decompiled.specs.RowLiterals.{ColumnLiteral, if_intact, literal}

-- the levels of a device's fuses, of which this is the array
pub record AreFuses (t : Table) (levels array : List Bool) : Type 0 where
  pub same : array ≡ levels
  pub long : length levels ≡ t.fuses

-- the literals of a pair, by the fuses of a row
abbrev pub literals_at : (fuses : List Bool) → (pair : ℕ) → Option Carry → List ColumnLiteral
literals_at fuses pair None = []
literals_at fuses pair (Some carry) =
    if_intact (is_on fuses (2 * pair)) (literal false carry)
    ++ if_intact (is_on fuses (2 * pair + 1)) (literal true carry)

abbrev pub pair_literals : Table → List Bool → (row : List Bool) → (pair : ℕ) → List PinLiteral
pair_literals t fuses row pair = map (named t fuses) (literals_at row pair (slice_get t.pairs pair))

-- the declaration of a pin that some line names
abbrev pub pin_if_named : Table → List Bool → List SumLine → (pin : ℕ) → List PinLine
pin_if_named t fuses lines pin = if list_any (names_pin pin) lines then pin_line t fuses pin ∷ [] else []
