-- What a device's pin can be for a signal: whether a name may have it, what its cell can be, and what its column carries
-- (the devices' datasheets, macrocell diagrams).
use Rattle.std.specs.Prelude.{ℕ, ◌==◌, Bool, true, false, not, ◌&&◌, ◌||◌, Option, None, Some, is_some, List, position, nat_lt}
use Rattle.abel_meaning.specs.Prelude.{list_any, Kinds, Combinational, Registered, Either, Table, is_read_pin, cell_on, carries_cell, Extension, Kind, APin, ANode, Entry, is_stored}
use Rattle.pld_device.specs.declared.cell.Cell.{Cell}
use Rattle.abel_tree.specs.declared.words.Extension.TheVariants as extension
use Rattle.abel_meaning.specs.Controls.{must_register, is_on_pin}

-- ---- names

-- a pin that a name may have: not 0, ground, the supply or above
abbrev pub is_signal_pin : Table → ℕ → Bool
is_signal_pin t n = not (n == 0) && not (n == t.ground_pin) && nat_lt n t.pins

-- some name has this pin
abbrev pub is_taken : List Entry → (pin : ℕ) → Bool
is_taken es n = list_any (λ (e : Entry). is_on_pin n e.kind) es

-- ---- cells

-- a cell of these kinds can't be what the signal is
abbrev pub is_wrong_kind : Kinds → (stored : Bool) → Bool
is_wrong_kind Combinational stored = stored
is_wrong_kind Registered stored = not stored
is_wrong_kind Either stored = false

-- a cell is on the pin, and can't be what the signal is
abbrev pub is_wrong_cell : (pin : ℕ) → (stored : Bool) → Cell → Bool
is_wrong_cell pin stored c = (c.pin == pin) && is_wrong_kind c.kinds stored

-- the cell on a pin can't be what the signal is
abbrev pub has_wrong_kind_on : Table → (pin : ℕ) → (stored : Bool) → Bool
has_wrong_kind_on t pin stored = list_any (is_wrong_cell pin stored) t.cells

-- so for a signal, by what its name is declared as
abbrev pub has_wrong_kind_by : Table → (stored : Bool) → Kind → Bool
has_wrong_kind_by t stored (APin pin negated) = has_wrong_kind_on t pin stored
has_wrong_kind_by t stored _ = false

abbrev pub has_wrong_kind : Table → Entry → Bool
has_wrong_kind t x = has_wrong_kind_by t (is_stored x) x.kind

-- a node that is registered, whether an attribute or an assignment on the clock says so
abbrev pub is_registered_by : (registered : Bool) → Kind → Bool
is_registered_by registered (ANode n) = registered
is_registered_by registered _ = false

abbrev pub is_registered_node : Entry → Bool
is_registered_node x = is_registered_by x.words.registered x.kind

-- ---- columns

-- a pair of columns carries the pin's level, which may be read: not so if the cell on it must register and nothing is assigned
abbrev pub carries_level : Table → Entry → (pin : ℕ) → Bool
carries_level t x pin =
    is_read_pin t pin
    && (x.assigned || not (list_any (λ (c : Cell). (c.pin == pin) && must_register c.kinds) t.cells))

-- a pair of columns carries the Q of the cell that there may be
abbrev pub carries_q : Table → Option ℕ → Bool
carries_q t None = false
carries_q t (Some c) = is_some (position (carries_cell c) t.pairs)

-- a register can be read as Q, or in its pin polarity
abbrev pub reads_register : Table → (pin : ℕ) → Option Extension → Bool
reads_register t pin None = carries_q t (cell_on t pin)
reads_register t pin (Some extension.Fb) = carries_q t (cell_on t pin)
reads_register t pin (Some extension.Q) = carries_q t (cell_on t pin)
reads_register t pin (Some _) = false

-- a combinational signal as its level
abbrev pub reads_pin : Table → Entry → (pin : ℕ) → Option Extension → Bool
reads_pin t x pin None = carries_level t x pin
reads_pin t x pin (Some extension.Pin) = carries_level t x pin
reads_pin t x pin (Some _) = false

-- a column carries what is read of a signal; what isn't on a pin needs none
abbrev pub reads_by : Table → Entry → (stored : Bool) → Kind → Option Extension → Bool
reads_by t x true (APin pin negated) e = reads_register t pin e
reads_by t x false (APin pin negated) e = reads_pin t x pin e
reads_by t x stored _ e = true

-- its column would carry the signal on this pin
abbrev pub has_read_path_on : Table → Entry → (pin : ℕ) → Option Extension → Bool
has_read_path_on t x pin e = reads_by t x (is_stored x) (APin pin false) e

-- the column of its own pin carries it, by what its name is declared as
abbrev pub has_read_path : Table → Entry → Option Extension → Bool
has_read_path t x e = reads_by t x (is_stored x) x.kind e
