-- Which cells are enabled, reset and preset, with the defaults of the device (the devices' datasheets, macrocell
-- diagrams; that registers without an equation share the first one is this project's rule).
use Rattle.std.specs.Prelude.{ℕ, suc, ◌==◌, Bool, true, false, not, ◌&&◌, Option, None, Some, unwrap_or, if◌then◌else◌, List, [], ◌∷◌, filter, position}
use Rattle.abel_meaning.specs.Prelude.{is_on, Levels, Enable, Kinds, Combinational, Registered, Either, cell_at, Extension, Kind, APin, Entry, is_stored}
use Rattle.pld_device.specs.declared.enable.Enable.TheVariants as enable
use Rattle.abel_tree.specs.declared.words.Extension.TheVariants as extension
use Rattle.abel_meaning.specs.Designs.{Context, name_at}
use Rattle.abel_meaning.specs.Contributions.{Evaluator, Contribution}
use Rattle.abel_meaning.specs.Functions.{some_holds}

-- the same extension, of those that control
abbrev pub is_the_control : Extension → Option Extension → Bool
is_the_control extension.Oe (Some extension.Oe) = true
is_the_control extension.Ar (Some extension.Ar) = true
is_the_control extension.Sp (Some extension.Sp) = true
is_the_control _ _ = false

-- the contribution is to the control of the signal
abbrev pub is_control : {W : Type 0} → ℕ → Extension → Contribution W → Bool
is_control s e c = c.signal == s && is_the_control e c.extension

-- control equations for one control are joined by Or, and have one polarity
abbrev pub control_by : {W : Type 0} → Evaluator W → List (Contribution W) → Option W
control_by ev [] = None
control_by ev (c ∷ cs) =
    Some (if c.complement then ev.not (some_holds ev (c ∷ cs)) else some_holds ev (c ∷ cs))

-- a control of a signal, none if it has no equation
abbrev pub control_of : {W : Type 0} → Evaluator W → List (Contribution W) → ℕ → Extension → Option W
control_of ev cs s e = control_by ev (filter (is_control s e) cs)

-- the name is declared as this pin
abbrev pub is_on_pin : (pin : ℕ) → Kind → Bool
is_on_pin pin (APin other negated) = other == pin
is_on_pin pin _ = false

-- the signal that is assigned on a cell, none if nothing is
abbrev pub signal_on : Context → (cell : ℕ) → Option ℕ
signal_on d c =
    position (λ (x : Entry). x.assigned && is_on_pin (cell_at d.device c).pin x.kind) d.names

-- a cell that nothing assigns stores if it can't be combinational
abbrev pub must_register : Kinds → Bool
must_register Combinational = false
must_register Registered = true
must_register Either = false

-- the cell stores, by the signal that is assigned on it
abbrev pub cell_stores_for : Context → (cell : ℕ) → Option ℕ → Bool
cell_stores_for d c None = must_register (cell_at d.device c).kinds
cell_stores_for d c (Some s) = is_stored (name_at d s)

-- the cell stores
abbrev pub cell_stores : Context → (cell : ℕ) → Bool
cell_stores d c = cell_stores_for d c (signal_on d c)

-- the enable of a cell whose enable is a row: its equation, always without one, never if nothing is assigned
abbrev pub enable_equation : {W : Type 0} → Evaluator W → List (Contribution W) → Option ℕ → W
enable_equation ev cs None = ev.constant false
enable_equation ev cs (Some s) = unwrap_or (control_of ev cs s extension.Oe) (ev.constant true)

-- by the cell's enable: a row, or a pin at 0; a cell without either always drives its pin, or never
abbrev pub cell_enabled_by : Evaluator Bool → Levels → List (Contribution Bool) → Option ℕ → Enable → Bool
cell_enabled_by ev at cs s (enable.Row row) = enable_equation ev cs s
cell_enabled_by ev at cs s (enable.PinLow pin) = not (is_on at.pins pin)
cell_enabled_by ev at cs s enable.Driven = true
cell_enabled_by ev at cs s enable.Released = false

-- the cell drives its pin
abbrev pub cell_is_enabled : Evaluator Bool → Context → Levels → List (Contribution Bool) → (cell : ℕ) → Bool
cell_is_enabled ev d at cs c = cell_enabled_by ev at cs (signal_on d c) (cell_at d.device c).enable

-- the control of a stored signal, if it has an equation
abbrev pub control_if_stored : {W : Type 0} → Evaluator W → List (Contribution W) → Extension → ℕ
    → Entry → Option W
control_if_stored ev cs e s x = stored_control (is_stored x) (control_of ev cs s e)
  where
    stored_control : {V : Type 0} → Bool → Option V → Option V
    stored_control true w = w
    stored_control false w = None

-- the control of the first register, in order of declaration, that has one, and 0 with none
abbrev pub shared_from : {W : Type 0} → Evaluator W → List (Contribution W) → Extension
    → (signal : ℕ) → List Entry → W
shared_from ev cs e s [] = ev.constant false
shared_from ev cs e s (x ∷ xs) = unwrap_or (control_if_stored ev cs e s x) (shared_from ev cs e (suc s) xs)

-- that of the whole design
abbrev pub shared_control : {W : Type 0} → Evaluator W → Context → List (Contribution W) → Extension → W
shared_control ev d cs e = shared_from ev cs e 0 d.names

-- reset or preset of a register: its own equation, or the shared one
abbrev pub register_control : {W : Type 0} → Evaluator W → Context → List (Contribution W)
    → Extension → Option ℕ → W
register_control ev d cs e None = shared_control ev d cs e
register_control ev d cs e (Some s) = unwrap_or (control_of ev cs s e) (shared_control ev d cs e)
