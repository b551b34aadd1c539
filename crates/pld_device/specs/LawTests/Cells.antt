-- Tests of a table's numbers, cells and pairs, and what they show (private: for the laws of tables).
use Rattle.std.proofs.Common.{◌≡◌, ◌≢◌, ℕ, ◌+◌, ◌*◌, ◌<◌, ◌≤◌, Bool, true, false, ◌&&◌, not, length, get_or, refl, arith, eq-eqb}
use Rattle.std.specs.Prelude.{nat_lt, nat_le, ◌==◌}
use Rattle.std.specs.List.{list_all}
use Rattle.std.proofs.lemmas.Bool.{and_parts, ltb-true}
use Rattle.std.proofs.lemmas.Bool.Decides.{nat_tests}
use Rattle.pld_device.specs.declared.carry.Carry.{Carry}
use Rattle.pld_device.specs.declared.carry.Carry.TheVariants as carry
use Rattle.pld_device.specs.declared.cell.Cell.{Cell}
use Rattle.pld_device.specs.declared.enable.Enable.{Enable}
use Rattle.pld_device.specs.declared.enable.Enable.TheVariants.{Row, PinLow, Driven, Released}
use Rattle.pld_device.specs.declared.kinds.Kinds.{Kinds}
use Rattle.pld_device.specs.declared.kinds.Kinds.TheVariants.{Combinational, Registered, Either}
use Rattle.pld_device.specs.Table.{Table}
use Rattle.pld_device.specs.Laws.{HasSizes, IsSignalPin, IsCell, IsPair}
use Rattle.pld_device.specs.LawTests.Lists.{not_both, get_all}

-- the numbers of the table and their limits
abbrev pub low_sizes : Table → Bool
low_sizes t =
    (t.columns == 2 * length t.pairs)
    && nat_le 2 t.columns
    && nat_le t.columns 44
    && nat_le 10 t.pins
    && nat_le t.pins 24

abbrev pub high_sizes : Table → Bool
high_sizes t =
    nat_le t.ground_pin t.pins
    && nat_le t.clock t.pins
    && nat_le (length t.cells) 10
    && nat_le (t.columns * t.rows) t.fuses
    && nat_le t.short t.fuses
    && nat_le t.fuses 9999

-- the pin is one of the device, and neither ground nor the supply
abbrev pub signal_pin_test : Table → ℕ → Bool
signal_pin_test t pin = nat_le 1 pin && nat_lt pin t.pins && not (pin == t.ground_pin)

-- the pin enables
abbrev pub is_enable_pin : ℕ → Enable → Bool
is_enable_pin pin (Row row) = false
is_enable_pin pin (PinLow other) = other == pin
is_enable_pin pin Driven = false
is_enable_pin pin Released = false

-- the enable is in the array, or a pin for signals
abbrev pub is_enable_of : Table → Enable → Bool
is_enable_of t (Row row) = nat_lt row t.rows
is_enable_of t (PinLow pin) = signal_pin_test t pin
is_enable_of t Driven = true
is_enable_of t Released = true

-- a cell of these kinds may have this enable
abbrev pub is_enable_for : Kinds → Enable → Bool
is_enable_for kinds (Row row) = true
is_enable_for Combinational (PinLow pin) = false
is_enable_for Registered (PinLow pin) = true
is_enable_for Either (PinLow pin) = false
is_enable_for kinds Driven = true
is_enable_for kinds Released = true

-- a cell of these kinds may have this clock
abbrev pub is_clock_for : Kinds → ℕ → Bool
is_clock_for Combinational clock = true
is_clock_for Registered clock = not (clock == 0)
is_clock_for Either clock = not (clock == 0)

-- the cell's pin
abbrev pub cell_pin_test : Table → Cell → Bool
cell_pin_test t cell =
    signal_pin_test t cell.pin
    && not (cell.pin == t.clock)
    && list_all (λ (other : Cell). not (is_enable_pin cell.pin other.enable)) t.cells

-- the cell's rows
abbrev pub cell_rows_test : Table → Cell → Bool
cell_rows_test t cell = nat_le 1 cell.room && nat_le cell.room 16 && nat_le (cell.first + cell.room) t.rows

-- the cell
abbrev pub cell_test : Table → Cell → Bool
cell_test t cell =
    cell_pin_test t cell
    && cell_rows_test t cell
    && is_enable_of t cell.enable
    && is_enable_for cell.kinds cell.enable
    && is_clock_for cell.kinds t.clock

-- what a pair carries
abbrev pub pair_test : Table → Carry → Bool
pair_test t (carry.Pin pin) = signal_pin_test t pin && list_all (λ (cell : Cell). not (cell.pin == pin)) t.cells
pair_test t (carry.Cell c) = nat_lt c (length t.cells)

-- two pairs carry the same
abbrev pub is_same_carry : Carry → Carry → Bool
is_same_carry (carry.Pin a) (carry.Pin b) = a == b
is_same_carry (carry.Pin a) (carry.Cell b) = false
is_same_carry (carry.Cell a) (carry.Pin b) = false
is_same_carry (carry.Cell a) (carry.Cell b) = a == b

pub sizes_from_tests : (t : Table) → low_sizes t ≡ true → high_sizes t ≡ true → HasSizes t
sizes_from_tests t low high = record {
  columns_even = grind (arith, nat_tests);
  columns_low = grind (arith, nat_tests);
  columns_high = grind (arith, nat_tests);
  pins_low = grind (arith, nat_tests);
  pins_high = grind (arith, nat_tests);
  ground_high = grind (arith, nat_tests);
  clock_high = grind (arith, nat_tests);
  few_cells = grind (arith, nat_tests);
  array_fits = grind (arith, nat_tests);
  short_high = grind (arith, nat_tests);
  fuses_high = grind (arith, nat_tests);
}

signal_pin : (t : Table) (pin : ℕ) → signal_pin_test t pin ≡ true → IsSignalPin t pin
signal_pin t pin test = record {
  low = grind (arith, nat_tests);
  high = grind (arith, nat_tests);
  not_ground = grind (arith, nat_tests);
}

-- an enable of which the test is false is not by this pin
other_enable : (pin : ℕ) (enable : Enable) → not (is_enable_pin pin enable) ≡ true → enable ≢ PinLow pin
other_enable pin (Row row) test = λ e. cc
other_enable pin (PinLow other) test = λ e. not_both (other == pin) test (eq-eqb _ _ (same_pin e))
  where
    same_pin : PinLow other ≡ PinLow pin → other ≡ pin
    same_pin e = cc
other_enable pin Driven test = λ e. cc
other_enable pin Released test = λ e. cc

row_in : (t : Table) (enable : Enable) (row : ℕ) → is_enable_of t enable ≡ true → enable ≡ Row row → row < t.rows
row_in t (Row other) row test e =
    let same : other ≡ row = cc in
    rw (← same) (ltb-true _ _ test)
row_in t (PinLow pin) row test e = absurd cc
row_in t Driven row test e = absurd cc
row_in t Released row test e = absurd cc

pin_in : (t : Table) (enable : Enable) (pin : ℕ) → is_enable_of t enable ≡ true → enable ≡ PinLow pin → IsSignalPin t pin
pin_in t (Row row) pin test e = absurd cc
pin_in t (PinLow other) pin test e =
    let same : other ≡ pin = cc in
    rw (← same) (signal_pin t other test)
pin_in t Driven pin test e = absurd cc
pin_in t Released pin test e = absurd cc

registers_by_pin : (kinds : Kinds) (enable : Enable) (pin : ℕ) → is_enable_for kinds enable ≡ true → enable ≡ PinLow pin → kinds ≡ Registered
registers_by_pin kinds (Row row) pin test e = absurd cc
registers_by_pin Combinational (PinLow other) pin test e = absurd cc
registers_by_pin Registered (PinLow other) pin test e = refl
registers_by_pin Either (PinLow other) pin test e = absurd cc
registers_by_pin kinds Driven pin test e = absurd cc
registers_by_pin kinds Released pin test e = absurd cc

has_clock : (kinds : Kinds) (clock : ℕ) → is_clock_for kinds clock ≡ true → kinds ≢ Combinational → clock ≢ 0
has_clock Combinational clock test may = absurd (may refl)
has_clock Registered clock test may = λ none. not_both (clock == 0) test (eq-eqb _ _ none)
has_clock Either clock test may = λ none. not_both (clock == 0) test (eq-eqb _ _ none)

-- what a cell's test says, one by one
pub record CellParts (t : Table) (cell : Cell) : Type 0 where
  pub pin : cell_pin_test t cell ≡ true
  pub rows : cell_rows_test t cell ≡ true
  pub enable : is_enable_of t cell.enable ≡ true
  pub kinds : is_enable_for cell.kinds cell.enable ≡ true
  pub clock : is_clock_for cell.kinds t.clock ≡ true

pub cell_parts : (t : Table) (cell : Cell) → cell_test t cell ≡ true → CellParts t cell
cell_parts t cell test =
    let clock = and_parts (cell_pin_test t cell && cell_rows_test t cell && is_enable_of t cell.enable && is_enable_for cell.kinds cell.enable) (is_clock_for cell.kinds t.clock) test in
    let kinds = and_parts (cell_pin_test t cell && cell_rows_test t cell && is_enable_of t cell.enable) (is_enable_for cell.kinds cell.enable) clock.0 in
    let enable = and_parts (cell_pin_test t cell && cell_rows_test t cell) (is_enable_of t cell.enable) kinds.0 in
    let rows = and_parts (cell_pin_test t cell) (cell_rows_test t cell) enable.0 in
    record { pin = rows.0; rows = rows.1; enable = enable.1; kinds = kinds.1; clock = clock.1 }

pub cell_from_test : (t : Table) (cell : Cell) → cell_test t cell ≡ true → IsCell t cell
cell_from_test t cell test =
    let parts = cell_parts t cell test in
    let others = and_parts (signal_pin_test t cell.pin && not (cell.pin == t.clock)) (list_all (λ (other : Cell). not (is_enable_pin cell.pin other.enable)) t.cells) parts.pin in
    let signal = and_parts (signal_pin_test t cell.pin) (not (cell.pin == t.clock)) others.0 in
    let rows = parts.rows in
    record {
      pin = signal_pin t cell.pin signal.0;
      not_clock = λ same. not_both (cell.pin == t.clock) signal.1 (eq-eqb _ _ same);
      enables_none = λ k d within. other_enable cell.pin (get_or t.cells k d).enable (get_all (λ (other : Cell). not (is_enable_pin cell.pin other.enable)) t.cells k d others.1 within);
      room_low = grind (arith, nat_tests, rows);
      room_high = grind (arith, nat_tests, rows);
      data_below = grind (arith, nat_tests, rows);
      enable_below = λ row. row_in t cell.enable row parts.enable;
      enable_pin = λ pin. pin_in t cell.enable pin parts.enable;
      pin_registers = λ pin. registers_by_pin cell.kinds cell.enable pin parts.kinds;
      clocked = has_clock cell.kinds t.clock parts.clock;
    }

pub pair_from_test : (t : Table) (carried : Carry) → pair_test t carried ≡ true → IsPair t carried
pair_from_test t (carry.Pin pin) test =
    let parts = and_parts (signal_pin_test t pin) (list_all (λ (cell : Cell). not (cell.pin == pin)) t.cells) test in
    (signal_pin t pin parts.0, λ k d within same. not_both ((get_or t.cells k d).pin == pin) (get_all (λ (cell : Cell). not (cell.pin == pin)) t.cells k d parts.1 within) (eq-eqb _ _ same))
pair_from_test t (carry.Cell c) test = ltb-true _ _ test

pub same_carry-refl : (a : Carry) → is_same_carry a a ≡ true
same_carry-refl (carry.Pin a) = grind (arith, nat_tests)
same_carry-refl (carry.Cell a) = grind (arith, nat_tests)
