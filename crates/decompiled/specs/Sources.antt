-- The source of a device's fuses (the devices' datasheets, macrocell diagrams; what is in which line is this project's
-- rule).
use Rattle.std.specs.Prelude.{◌≡◌, ◌≢◌, ℕ, ◌==◌, Bool, true, false, not, ◌&&◌, ◌||◌, if◌then◌else◌, Option, None, Some, List, [], ◌∷◌, ◌++◌, length, filter, find, flat_map, map}
use Rattle.decompiled.specs.Prelude.{list_any, range_with_len, Carry, Enable, Row, PinLow, Driven, Released, complement_if, data_complements, data_rows, pin_complements, is_never_true, is_inverted, stores, Table, cell_at, Extension}
use Rattle.pld_device.specs.declared.carry.Carry.TheVariants as carry
use Rattle.pld_device.specs.Given.{never_drives}
use Rattle.abel_tree.specs.declared.words.Extension.TheVariants as extension
use Rattle.decompiled.specs.declared.literal.PinLiteral.{PinLiteral}
use Rattle.decompiled.specs.declared.pin_line.PinLine.{PinLine}
use Rattle.decompiled.specs.declared.sum_line.SumLine.{SumLine}
use Rattle.decompiled.specs.declared.source.PinSource.{PinSource}
use Rattle.decompiled.specs.SourceText.{source_text}
use Rattle.decompiled.specs.RowLiterals.{ColumnLiteral, row_literals}

-- ---- products

-- a pair's column by a name: a pin's level, or a register's Q, of which the lower column carries the complement
abbrev pub named_by : Table → List Bool → (higher : Bool) → Carry → PinLiteral
named_by t fuses higher (carry.Pin pin) = record { negated = higher; pin = pin; of_q = false }
named_by t fuses higher (carry.Cell c) =
    record { negated = complement_if (stores t fuses c) higher; pin = (cell_at t c).pin; of_q = stores t fuses c }

abbrev pub named : Table → List Bool → ColumnLiteral → PinLiteral
named t fuses l = named_by t fuses l.higher l.pair

abbrev pub product_of : Table → List Bool → (row : ℕ) → List PinLiteral
product_of t fuses row = map (named t fuses) (row_literals t fuses row)

-- the data rows of a cell that may be true
abbrev pub live_rows : Table → List Bool → (cell : ℕ) → List ℕ
live_rows t fuses c = filter (λ row. not (is_never_true t fuses row)) (data_rows t c)

-- a row that is never true is the sum of no product
abbrev pub control_products : Table → List Bool → (row : ℕ) → List (List PinLiteral)
control_products t fuses row = if is_never_true t fuses row then [] else product_of t fuses row ∷ []

-- ---- lines

-- the cell is a register, or may drive its pin
abbrev pub has_lines : Table → List Bool → (cell : ℕ) → Bool
has_lines t fuses c = stores t fuses c || not (never_drives t fuses c)

-- the line assigns the complement of the rows' sum: to the pin, or to the register's data
abbrev pub is_complement : Table → List Bool → (cell : ℕ) → Bool
is_complement t fuses c =
    if stores t fuses c
    then data_complements t.flip (is_inverted t fuses c)
    else pin_complements t.flip false (is_inverted t fuses c)

abbrev pub data_line : Table → List Bool → (cell : ℕ) → SumLine
data_line t fuses c =
    record {
      negated = is_complement t fuses c;
      pin = (cell_at t c).pin;
      extension = if stores t fuses c then Some extension.D else None;
      products = map (product_of t fuses) (live_rows t fuses c);
    }

abbrev pub control_line : Table → List Bool → (cell : ℕ) → Extension → (row : ℕ) → SumLine
control_line t fuses c e row =
    record { negated = false; pin = (cell_at t c).pin; extension = Some e; products = control_products t fuses row }

abbrev pub enable_lines : Table → List Bool → (cell : ℕ) → Enable → List SumLine
enable_lines t fuses c (Row row) = control_line t fuses c extension.Oe row ∷ []
enable_lines t fuses c (PinLow pin) = []
enable_lines t fuses c Driven = []
enable_lines t fuses c Released = []

abbrev pub cell_lines : Table → List Bool → (cell : ℕ) → List SumLine
cell_lines t fuses c = if has_lines t fuses c then data_line t fuses c ∷ enable_lines t fuses c (cell_at t c).enable else []

-- the row of all registers, at the first of them, if it may be true
abbrev pub shared_lines : Table → List Bool → Extension → Option ℕ → Option ℕ → List SumLine
shared_lines t fuses e (Some c) (Some row) = if is_never_true t fuses row then [] else control_line t fuses c e row ∷ []
shared_lines t fuses e _ _ = []

abbrev pub first_register : Table → List Bool → Option ℕ
first_register t fuses = find (stores t fuses) (range_with_len 0 (length t.cells))

abbrev pub lines_of : Table → List Bool → List SumLine
lines_of t fuses =
    flat_map (cell_lines t fuses) (range_with_len 0 (length t.cells))
    ++ shared_lines t fuses extension.Ar (first_register t fuses) t.reset
    ++ shared_lines t fuses extension.Sp (first_register t fuses) t.preset

-- ---- pins

-- the product has a literal of the pin
abbrev pub product_names : (pin : ℕ) → List PinLiteral → Bool
product_names pin p = list_any (λ (l : PinLiteral). l.pin == pin) p

-- the line names the pin
abbrev pub names_pin : (pin : ℕ) → SumLine → Bool
names_pin pin l = l.pin == pin || list_any (product_names pin) l.products

-- the cell is a register on the pin
abbrev pub is_register_on : Table → List Bool → (pin cell : ℕ) → Bool
is_register_on t fuses pin c = (cell_at t c).pin == pin && stores t fuses c

abbrev pub register_on : Table → List Bool → (pin : ℕ) → Option ℕ
register_on t fuses pin = find (is_register_on t fuses pin) (range_with_len 0 (length t.cells))

-- whether the pin of the register that there may be equals its Q
abbrev pub follows_by : Table → List Bool → Option ℕ → Option Bool
follows_by t fuses None = None
follows_by t fuses (Some c) = Some (not (pin_complements t.flip true (is_inverted t fuses c)))

abbrev pub pin_line : Table → List Bool → (pin : ℕ) → PinLine
pin_line t fuses pin = record { pin = pin; follows = follows_by t fuses (register_on t fuses pin) }

-- the pins that some line names, in rising order
abbrev pub pins_of : Table → List Bool → List ℕ
pins_of t fuses = filter (λ pin. list_any (names_pin pin) (lines_of t fuses)) (range_with_len 1 t.pins)

-- the pin that may power the chip down, if there is one, isn't among them: no row of a line reads it
abbrev pub SparesPowerDown : Table → List Bool → Type 0
SparesPowerDown t fuses = t.power_down ≢ 0 → list_any (λ pin. pin == t.power_down) (pins_of t fuses) ≡ false

-- ---- the whole

abbrev pub source_of : Table → List Bool → PinSource
source_of t fuses = record { device = t.name; pins = map (pin_line t fuses) (pins_of t fuses); lines = lines_of t fuses }

abbrev pub decompiled_text : Table → List Bool → List ℕ
decompiled_text t fuses = source_text (source_of t fuses)
