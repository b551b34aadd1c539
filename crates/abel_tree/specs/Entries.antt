-- The names that the declarations of a module make (ABEL-HDL Reference Manual, declarations).
use Rattle.std.specs.Prelude.{ℕ, ◌==◌, Bool, true, false, not, ◌&&◌, ◌||◌, Option, None, Some, List, [], ◌∷◌, if◌then◌else◌, map, position, bytes_eq}
use Rattle.std.specs.Int.RustNames.{bit_and}
use Rattle.pld_base.specs.declared.place.Place.{Place}
use Rattle.abel_tree.specs.declared.attributes.Attributes.{Attributes}
use Rattle.abel_tree.specs.declared.names.Meaning.{Meaning}
use Rattle.abel_tree.specs.declared.names.Meaning.TheVariants as meaning
use Rattle.abel_tree.specs.declared.names.Declared.{Declared}
use Rattle.abel_tree.specs.declared.names.Names.{Names}
use Rattle.abel_tree.specs.Tree.{Tree}
use Rattle.abel_tree.specs.View.{view}

-- what a name is declared as
pub data Kind : Type 0 where
  APin : (pin : ℕ) → (negated : Bool) → Kind
  ANode : (number : ℕ) → Kind
  AConstant : (value : Tree) → Kind
  ADeviceName : Kind

abbrev pub view_meaning : Meaning → Kind
view_meaning (meaning.Pin pin negated) = APin pin negated
view_meaning (meaning.Node number) = ANode number
view_meaning (meaning.Constant value) = AConstant (view value)
view_meaning meaning.DeviceName = ADeviceName

-- the attributes of a signal, each said or not
pub record Words : Type 0 where
  pub combinational : Bool
  pub registered : Bool
  pub buffer : Bool
  pub invert : Bool
  pub dc : Bool

abbrev pub has_bit : ℕ → Attributes → Bool
has_bit bit a = bit_and a.0 bit == bit

abbrev pub view_attributes : Attributes → Words
view_attributes a = record { combinational = has_bit 1 a; registered = has_bit 2 a; buffer = has_bit 4 a; invert = has_bit 8 a; dc = has_bit 16 a }

-- a declared name
pub record Entry : Type 0 where
  pub name : List ℕ
  pub place : Place
  pub kind : Kind
  pub words : Words
  pub assigned : Bool

abbrev pub view_declared : Declared → Entry
view_declared d = record { name = d.name; place = d.place; kind = view_meaning d.meaning; words = view_attributes d.attributes; assigned = d.assigned }

-- the signal is stored in a register; one that is assigned nothing counts as combinational
abbrev pub is_stored : Entry → Bool
is_stored x = x.words.registered && x.assigned

-- the pin of a register follows Q: so it is of one that doesn't invert, a free one too, until it is chosen
abbrev pub follows_q : Entry → Bool
follows_q x = not x.words.invert

-- the names in the order of their declarations
abbrev pub entries_of : Names → List Entry
entries_of n = map view_declared n.list

-- the number of a name: the place of its first declaration
abbrev pub find : List Entry → List ℕ → Option ℕ
find es name = position (λ (e : Entry). bytes_eq name e.name) es

abbrev pub is_signal : Kind → Bool
is_signal (APin pin negated) = true
is_signal (ANode number) = true
is_signal (AConstant value) = false
is_signal ADeviceName = false

-- a signal or a constant
abbrev pub is_value : Kind → Bool
is_value (APin pin negated) = true
is_value (ANode number) = true
is_value (AConstant value) = true
is_value ADeviceName = false

-- what a name is declared as, first
abbrev pub kind_of : List Entry → List ℕ → Option Kind
kind_of [] name = None
kind_of (e ∷ es) name = if bytes_eq name e.name then Some e.kind else kind_of es name

abbrev pub passes : (Kind → Bool) → Option Kind → Bool
passes test None = false
passes test (Some k) = test k

-- the name is declared as what passes the test
abbrev pub names_any : (Kind → Bool) → List Entry → List ℕ → Bool
names_any test es name = passes test (kind_of es name)
