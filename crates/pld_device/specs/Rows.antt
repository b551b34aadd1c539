-- What the columns carry at a point, and if a row of the array is true (the devices' datasheets, logic
-- diagrams; what a row's switch does is this project's rule).
use Rattle.std.specs.Prelude.{ℕ, ◌+◌, ◌*◌, Bool, true, not, ◌&&◌, ◌||◌, if◌then◌else◌, Option, None, Some, List, [], ◌∷◌, map, slice_get, slice_range}
use Rattle.pld_base.specs.Bits.{is_on}
use Rattle.pld_base.specs.Points.{Levels}
use Rattle.pld_device.specs.declared.carry.Carry.{Carry}
use Rattle.pld_device.specs.declared.carry.Carry.TheVariants as carry
use Rattle.pld_device.specs.Table.{Table, cell_at}
use Rattle.pld_device.specs.Registers.{stores}

-- what a cell feeds back: the complement of Q if it stores, else its pin's level
abbrev pub feedback : Table → List Bool → Levels → ℕ → Bool
feedback t fuses at c = if stores t fuses c then not (is_on at.q c) else is_on at.pins (cell_at t c).pin

-- the value that a pair carries
abbrev pub carried : Table → List Bool → Levels → Carry → Bool
carried t fuses at (carry.Pin p) = is_on at.pins p
carried t fuses at (carry.Cell c) = feedback t fuses at c

-- the values of all pairs, from pair 0
abbrev pub pair_values : Table → List Bool → Levels → List Bool
pair_values t fuses at = map (carried t fuses at) t.pairs

-- the columns of these pairs: the lower one carries the value, the higher one its complement
abbrev pub columns_of : List Bool → List Bool
columns_of [] = []
columns_of (value ∷ values) = value ∷ not value ∷ columns_of values

-- the fuses of a row, one a column
abbrev pub row_fuses : Table → List Bool → ℕ → List Bool
row_fuses t fuses row = slice_range fuses (t.columns * row) (t.columns * row + t.columns)

-- each column whose fuse is 0 carries 1
abbrev pub row_is_true : List Bool → List Bool → Bool
row_is_true [] columns = true
row_is_true (fuse ∷ fuses) [] = true
row_is_true (fuse ∷ fuses) (column ∷ columns) = (fuse || column) && row_is_true fuses columns

-- a switch that is there has its fuse at 1
abbrev pub switched_by : List Bool → Option ℕ → Bool
switched_by fuses None = true
switched_by fuses (Some fuse) = is_on fuses fuse

-- the row isn't switched off
abbrev pub is_switched_on : Table → List Bool → ℕ → Bool
is_switched_on t fuses row = switched_by fuses (slice_get t.row_switches row)

-- the row is true at the point; a row that is switched off is never true
abbrev pub row_value : Table → List Bool → Levels → ℕ → Bool
row_value t fuses at row =
    is_switched_on t fuses row && row_is_true (row_fuses t fuses row) (columns_of (pair_values t fuses at))
