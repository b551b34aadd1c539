-- Which signals of a module are to be placed, and which free pins fit them, the most preferred one first (this project's
-- rule, over the devices' datasheets, macrocell diagrams).
use Rattle.std.specs.Prelude.{ℕ, zero, suc, Bool, true, false, not, ◌&&◌, ◌||◌, ◌==◌, None, is_some, is_none, List, [], ◌∷◌, ◌++◌, if◌then◌else◌, map, filter, get_or}
use Rattle.placer.specs.Prelude.{list_any, range_with_len, Cell, Table, Entry, is_stored, cell_on, is_unnumbered, no_name, is_buffer_by_default, is_taken, is_signal_pin, has_wrong_kind_on, is_registered_node, has_read_path_on}
use Rattle.pld_device.specs.declared.enable.Enable.{Enable}
use Rattle.pld_device.specs.declared.enable.Enable.TheVariants.{Driven, PinLow, Released}

-- ---- signals

-- a node that is a register and assigned needs a cell, if the pin of a register may be Q
abbrev pub is_buried_register : Table → Entry → Bool
is_buried_register t x = is_buffer_by_default t.flip && (is_registered_node x && x.assigned)

-- so does a pin without a number need one
abbrev pub needs_pin : Table → Entry → Bool
needs_pin t x = is_unnumbered x.kind || is_buried_register t x

-- the numbers of those that need one, of names the first of which has this number
abbrev pub to_place_from : Table → ℕ → List Entry → List ℕ
to_place_from t s [] = []
to_place_from t s (x ∷ xs) = if needs_pin t x then s ∷ to_place_from t (suc s) xs else to_place_from t (suc s) xs

abbrev pub to_place : Table → List Entry → List ℕ
to_place t es = to_place_from t 0 es

-- ---- free pins

abbrev pub is_enabled_by : (pin : ℕ) → Enable → Bool
is_enabled_by pin (PinLow p) = p == pin
is_enabled_by pin _ = false

-- a pin that may have a name, is neither the clock nor enables a cell, and that no number names
abbrev pub is_pin_free : Table → List Entry → (pin : ℕ) → Bool
is_pin_free t es pin =
    is_signal_pin t pin && not (pin == t.clock)
    && not (list_any (λ (c : Cell). is_enabled_by pin c.enable) t.cells) && not (is_taken es pin)

-- ---- fitting

-- there is a cell on the pin, and it can be what the signal is
abbrev pub has_cell_for : Table → Entry → (pin : ℕ) → Bool
has_cell_for t x pin = is_some (cell_on t pin) && not (has_wrong_kind_on t pin (is_stored x))

-- a cell that always drives its pin is for what is assigned, and one that never does for what isn't
abbrev pub is_unsuited : (assigned : Bool) → Enable → Bool
is_unsuited assigned Driven = not assigned
is_unsuited assigned Released = assigned
is_unsuited assigned _ = false

abbrev pub has_unsuited_on : Table → (assigned : Bool) → (pin : ℕ) → Bool
has_unsuited_on t assigned pin = list_any (λ (c : Cell). (c.pin == pin) && is_unsuited assigned c.enable) t.cells

-- what is assigned needs a cell that can be what it is, and what is read a column for its bare name
abbrev pub pin_fits : Table → (read : Bool) → Entry → (pin : ℕ) → Bool
pin_fits t read x pin =
    (not x.assigned || has_cell_for t x pin) && not (has_unsuited_on t x.assigned pin) && (not read || has_read_path_on t x pin None)

-- ---- preference

-- the pins of the cells of a room, in the order of the device
abbrev pub cells_of_room : Table → (room : ℕ) → List ℕ
cells_of_room t room = map (λ (c : Cell). c.pin) (filter (λ (c : Cell). c.room == room) t.cells)

-- those of the cells of at most this room, of larger room first; of smaller room first
abbrev pub large_to : Table → (room : ℕ) → List ℕ
large_to t zero = cells_of_room t zero
large_to t (suc room) = cells_of_room t (suc room) ++ large_to t room

abbrev pub small_to : Table → (room : ℕ) → List ℕ
small_to t zero = cells_of_room t zero
small_to t (suc room) = small_to t room ++ cells_of_room t (suc room)

-- no cell has more rows than the device
abbrev pub large_cells : Table → List ℕ
large_cells t = large_to t t.rows

abbrev pub small_cells : Table → List ℕ
small_cells t = small_to t t.rows

-- pins without a cell, in rising order
abbrev pub plain_pins : Table → List ℕ
plain_pins t = filter (λ pin. is_none (cell_on t pin)) (range_with_len 1 t.pins)

-- what is assigned prefers cells of larger room, and what isn't pins without a cell, then cells of smaller room
abbrev pub preferred : Table → (assigned : Bool) → List ℕ
preferred t true = large_cells t
preferred t false = plain_pins t ++ small_cells t

-- the free pins that fit a name, the most preferred one first
abbrev pub wish : Table → List Entry → (read : Bool) → Entry → List ℕ
wish t es read x = filter (λ pin. is_pin_free t es pin && pin_fits t read x pin) (preferred t x.assigned)

-- those of all signals that are to be placed, in order of declaration
abbrev pub wishes : Table → List Entry → (read : ℕ → Bool) → List (List ℕ)
wishes t es read = map (λ s. wish t es (read s) (get_or es s no_name)) (to_place t es)
