-- What an equation for a clock, or for the enable of a cell that a pin enables, must say: what the device does anyway
-- (the devices' datasheets, macrocell diagrams); how it must be written is said in `design_checks`.
use Rattle.std.specs.Prelude.{ℕ, ◌==◌, Bool, true, false, not, Option, None, Some}
use Rattle.design_checks.specs.Prelude.{Enable, Row, PinLow, Driven, Released, Table, cell_at, Leaf, Formula, Const, Read, Not, And, Or, Xor, Extension, Entry, cell_of}
use Rattle.bit_expr.specs.declared.node.Leaf.TheVariants as leaf
use Rattle.abel_tree.specs.declared.words.Extension.TheVariants as extension
use Rattle.design_checks.specs.SectionUses.{is_cell_by_pin}

-- ---- levels

abbrev pub is_pin_leaf : (pin : ℕ) → Leaf → Bool
is_pin_leaf pin (leaf.Pin p) = p == pin
is_pin_leaf pin (leaf.Q c) = false
is_pin_leaf pin (leaf.Node n) = false

-- the formula is the pin's level
abbrev pub is_level : (pin : ℕ) → Formula → Bool
is_level pin (Const level) = false
is_level pin (Read l) = is_pin_leaf pin l
is_level pin (Not f) = false
is_level pin (And f g) = false
is_level pin (Or f g) = false
is_level pin (Xor f g) = false

-- it is the complement of the pin's level
abbrev pub is_other_level : (pin : ℕ) → Formula → Bool
is_other_level pin (Const level) = false
is_other_level pin (Read l) = false
is_other_level pin (Not f) = is_level pin f
is_other_level pin (And f g) = false
is_other_level pin (Or f g) = false
is_other_level pin (Xor f g) = false

-- the one or the other
abbrev pub is_level_if : (complement : Bool) → (pin : ℕ) → Formula → Bool
is_level_if false pin f = is_level pin f
is_level_if true pin f = is_other_level pin f

-- ---- what is compared

-- an equation for this signal is compared: one for a clock, or for the enable of a cell that no row enables
abbrev pub is_compared_of : Table → Option Extension → Entry → Bool
is_compared_of t (Some extension.Clk) x = true
is_compared_of t (Some extension.Oe) x = is_cell_by_pin t (cell_of t x)
is_compared_of t _ x = false

-- ---- what is said

-- an equation for an enable, of the control or of its complement: a pin enables at 0; a cell without either has no equation
abbrev pub enables_so : Enable → (complement : Bool) → Formula → Bool
enables_so (Row row) complement f = true
enables_so (PinLow pin) complement f = is_level_if (not complement) pin f
enables_so Driven complement f = false
enables_so Released complement f = false

abbrev pub cell_enables_so : Table → Option ℕ → (complement : Bool) → Formula → Bool
cell_enables_so t None complement f = true
cell_enables_so t (Some c) complement f = enables_so (cell_at t c).enable complement f

-- an equation says what the device does, or the device does what it says
abbrev pub says_so : Table → Entry → Option Extension → (complement : Bool) → Formula → Bool
says_so t x (Some extension.Clk) complement f = is_level_if complement t.clock f
says_so t x (Some extension.Oe) complement f = cell_enables_so t (cell_of t x) complement f
says_so t x _ complement f = true

-- it says so wherever it counts: in a diagram it counts in a state alone, and is under a guard
abbrev pub says_always : Table → Entry → Option Extension → (block : Option ℕ) → (complement : Bool) → Formula → Bool
says_always t x e None complement f = says_so t x e complement f
says_always t x e (Some block) complement f = not (is_compared_of t e x)
