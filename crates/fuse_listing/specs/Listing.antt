-- The listing of a device's fuses in the names of a source (this project's rule).
use Rattle.std.specs.Prelude.{ℕ, ◌+◌, ◌*◌, ◌/◌, ◌%◌, ◌==◌, ◌<◌, Bool, false, not, ◌&&◌, if◌then◌else◌, Option, None, Some, List, [], ◌∷◌, ◌++◌, length, filter, flat_map, slice_get, zip, codes}
use Rattle.std.specs.List.{list_any, range_with_len}
use Rattle.std.specs.Fmt.{decimal}
use Rattle.pld_base.specs.DeviceNames.{device_text}
use Rattle.pld_base.specs.Bits.{is_on}
use Rattle.pld_device.specs.declared.carry.Carry.{Carry}
use Rattle.pld_device.specs.declared.carry.Carry.TheVariants as carry
use Rattle.pld_device.specs.declared.enable.Enable.{Enable}
use Rattle.pld_device.specs.declared.enable.Enable.TheVariants.{Row, PinLow, Driven, Released}
use Rattle.pld_device.specs.Macrocells.{complement_if, data_rows, pin_complements}
use Rattle.pld_device.specs.Registers.{is_inverted, stores}
use Rattle.pld_device.specs.Rows.{is_switched_on}
use Rattle.pld_device.specs.Table.{Table, cell_at}
use Rattle.abel_tree.specs.Entries.{Kind, APin, Entry}
use Rattle.abel_meaning.specs.Choices.{is_free}
use Rattle.abel_meaning.specs.Controls.{is_on_pin}
use Rattle.abel_meaning.specs.Declarations.{is_unnumbered}

-- ---- names of pins

abbrev pub is_complement : Kind → Bool
is_complement (APin pin negated) = negated
is_complement _ = false

-- the first name of a pin
abbrev pub name_on : List Entry → (pin : ℕ) → Option Entry
name_on [] pin = None
name_on (e ∷ es) pin = if is_on_pin pin e.kind then Some e else name_on es pin

-- a pin that has no name is given by its number
abbrev pub name_text : (pin : ℕ) → Option Entry → List ℕ
name_text pin (Some e) = e.name
name_text pin None = codes "pin" ++ decimal pin

abbrev pub names_complement : Option Entry → Bool
names_complement (Some e) = is_complement e.kind
names_complement None = false

-- ---- literals

-- the pin of a register or a combinational cell has the complement of its output
abbrev pub complements_output : Table → List Bool → (cell : ℕ) → Bool
complements_output t fuses c = pin_complements t.flip (stores t fuses c) (is_inverted t fuses c)

-- the pin that a pair belongs to
abbrev pub pin_of : Table → Carry → ℕ
pin_of t (carry.Pin pin) = pin
pin_of t (carry.Cell c) = (cell_at t c).pin

-- a cell that a pair carries is one of the device
abbrev pub CarryIsThere : Table → Carry → Type 0
CarryIsThere t (carry.Pin pin) = Unit {0}
CarryIsThere t (carry.Cell c) = c < length t.cells

-- the pair carries the complement of the pin's polarity: it has the complement of a register's Q, and the register
-- is direct
abbrev pub carries_complement : Table → List Bool → Carry → Bool
carries_complement t fuses (carry.Pin pin) = false
carries_complement t fuses (carry.Cell c) = stores t fuses c && not (complements_output t fuses c)

-- a name, with `!` if the column carries the complement of what the name reads
abbrev pub literal_text : (complement : Bool) → List ℕ → List ℕ
literal_text complement name = (if complement then codes "!" else []) ++ name

-- the literal of a pair's lower column, which carries its value, or of its higher one, which carries the complement
abbrev pub pair_literal : Table → List Bool → List Entry → (higher : Bool) → Carry → List ℕ
pair_literal t fuses es higher pair =
    literal_text
    (complement_if higher (complement_if (names_complement (name_on es (pin_of t pair))) (carries_complement t fuses pair)))
    (name_text (pin_of t pair) (name_on es (pin_of t pair)))

abbrev pub literal_if_any : Table → List Bool → List Entry → (higher : Bool) → Option Carry → List ℕ
literal_if_any t fuses es higher None = []
literal_if_any t fuses es higher (Some pair) = pair_literal t fuses es higher pair

-- the literal of a column
abbrev pub column_literal : Table → List Bool → List Entry → (column : ℕ) → List ℕ
column_literal t fuses es column =
    literal_if_any t fuses es (column % 2 == 1) (slice_get t.pairs (column / 2))

-- ---- rows

-- the fuse of a row and a column is opened
abbrev pub is_opened : Table → List Bool → (row column : ℕ) → Bool
is_opened t fuses row column = is_on fuses (t.columns * row + column)

-- the columns of a row whose fuses are intact
abbrev pub intact_columns : Table → List Bool → (row : ℕ) → List ℕ
intact_columns t fuses row = filter (λ k. not (is_opened t fuses row k)) (range_with_len 0 t.columns)

-- literals joined by `&`; none ask nothing
abbrev pub product_text : (ℕ → List ℕ) → List ℕ → List ℕ
product_text literal [] = codes "1"
product_text literal (first ∷ rest) = literal first ++ flat_map (λ k. codes " & " ++ literal k) rest

-- some fuse of the row is opened, and the row isn't switched off
abbrev pub is_in_use : Table → List Bool → (row : ℕ) → Bool
is_in_use t fuses row = list_any (is_opened t fuses row) (range_with_len 0 t.columns) && is_switched_on t fuses row

-- a row as a product, or 0
abbrev pub row_text : Table → List Bool → List Entry → (row : ℕ) → List ℕ
row_text t fuses es row =
    if is_in_use t fuses row
    then product_text (column_literal t fuses es) (intact_columns t fuses row)
    else codes "0"

-- a line on a row
abbrev pub row_line : Table → List Bool → List Entry → (word : List ℕ) → (row : ℕ) → List ℕ
row_line t fuses es word row = word ++ row_text t fuses es row ++ codes "\n"

-- ---- cells

abbrev pub enable_text : Table → List Bool → List Entry → Enable → List ℕ
enable_text t fuses es (Row row) = row_text t fuses es row
enable_text t fuses es (PinLow pin) = codes "!pin" ++ decimal pin
enable_text t fuses es Driven = codes "1"
enable_text t fuses es Released = codes "0"

-- the data rows in use
abbrev pub rows_in_use : Table → List Bool → (cell : ℕ) → List ℕ
rows_in_use t fuses c = filter (is_in_use t fuses) (data_rows t c)

abbrev pub kind_text : Table → List Bool → (cell : ℕ) → List ℕ
kind_text t fuses c = if stores t fuses c then codes " registered" else codes " combinational"

abbrev pub polarity_text : Table → List Bool → (cell : ℕ) → List ℕ
polarity_text t fuses c = if complements_output t fuses c then codes " inverted " else codes " direct "

abbrev pub pin_text : Table → (cell : ℕ) → (name : List ℕ) → List ℕ
pin_text t c name = codes "pin " ++ decimal (cell_at t c).pin ++ codes " " ++ name

-- the data rows in use, of those that there are
abbrev pub use_text : Table → List Bool → (cell : ℕ) → List ℕ
use_text t fuses c = decimal (length (rows_in_use t fuses c)) ++ codes " of " ++ decimal (cell_at t c).room

-- the polarity of a free register was chosen
abbrev pub chosen_text : Entry → List ℕ
chosen_text e = if is_free e then codes " chosen" else []

-- a cell's first line, by its pin's name
abbrev pub head_text : Table → List Bool → (cell : ℕ) → Entry → List ℕ
head_text t fuses c e =
    pin_text t c e.name ++ kind_text t fuses c ++ polarity_text t fuses c ++ use_text t fuses c ++ chosen_text e ++ codes "\n"

-- the line of a data row that is in use
abbrev pub line_if_used : Table → List Bool → List Entry → (row : ℕ) → List ℕ
line_if_used t fuses es row = if is_in_use t fuses row then row_line t fuses es (codes "  rows ") row else []

-- the lines of a cell, by its pin's name
abbrev pub cell_text : Table → List Bool → List Entry → (cell : ℕ) → Entry → List ℕ
cell_text t fuses es c e =
    head_text t fuses c e
    ++ codes "  enable " ++ enable_text t fuses es (cell_at t c).enable ++ codes "\n"
    ++ flat_map (line_if_used t fuses es) (data_rows t c)

-- those of a cell whose pin's name is assigned
abbrev pub text_if_assigned : Table → List Bool → List Entry → (cell : ℕ) → Option Entry → List ℕ
text_if_assigned t fuses es c None = []
text_if_assigned t fuses es c (Some e) = if e.assigned then cell_text t fuses es c e else []

abbrev pub assigned_text : Table → List Bool → List Entry → (cell : ℕ) → List ℕ
assigned_text t fuses es c = text_if_assigned t fuses es c (name_on es (cell_at t c).pin)

-- ---- pins that were given

-- the line of a pin, by its name
abbrev pub pin_line : Kind → (name : List ℕ) → List ℕ
pin_line (APin pin negated) name = codes "pin " ++ decimal pin ++ codes " " ++ name ++ codes "\n"
pin_line _ name = []

-- that of a signal which was given its pin, and has no line of a cell: it has no number, and nothing is assigned to it
abbrev pub given_line : (declared placed : Entry) → List ℕ
given_line x e = if is_unnumbered x.kind && not x.assigned then pin_line e.kind e.name else []

-- names as they are declared, and as they are placed
abbrev pub given_lines : (declared placed : List Entry) → List ℕ
given_lines declared placed = flat_map (λ (x : Entry × Entry). given_line x.0 x.1) (zip declared placed)

-- ---- the whole

-- the line of the row of all registers that there may be
abbrev pub common_line : Table → List Bool → List Entry → (word : List ℕ) → Option ℕ → List ℕ
common_line t fuses es word None = []
common_line t fuses es word (Some row) = row_line t fuses es word row

abbrev pub listing_text : Table → List Bool → (declared placed : List Entry) → List ℕ
listing_text t fuses declared es =
    codes "device " ++ device_text t.name ++ codes "\n"
    ++ given_lines declared es
    ++ flat_map (assigned_text t fuses es) (range_with_len 0 (length t.cells))
    ++ common_line t fuses es (codes "reset ") t.reset
    ++ common_line t fuses es (codes "preset ") t.preset
