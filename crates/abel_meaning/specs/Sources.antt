-- What a signal's name reads, bare or with an extension (the devices' datasheets, macrocell diagrams; what has the
-- value 0 is this project's rule).
use Rattle.std.specs.Prelude.{ℕ, Bool, true, false, not, Option, None, Some}
use Rattle.abel_meaning.specs.Prelude.{Levels, complement_if, Table, Leaf, leaf_value, Extension, Kind, APin, ANode, AConstant, ADeviceName, Entry, is_stored, follows_q, cell_on}
use Rattle.bit_expr.specs.declared.node.Leaf.TheVariants as leaf
use Rattle.abel_tree.specs.declared.words.Extension.TheVariants as extension
use Rattle.abel_meaning.specs.Designs.{Context, name_at}

-- what is read: 0, or what a leaf carries, or its complement
pub data Source : Type 0 where
  Zero : Source
  LeafRead : (complement : Bool) → Leaf → Source

-- its value at a point
abbrev pub source_value : Levels → Source → Bool
source_value at Zero = false
source_value at (LeafRead complement leaf) = complement_if complement (leaf_value at leaf)

-- a combinational signal on a pin: the pin's level
abbrev pub pin_source : (pin : ℕ) → (negated : Bool) → Option Extension → Source
pin_source pin negated None = LeafRead negated (leaf.Pin pin)
pin_source pin negated (Some extension.Pin) = LeafRead negated (leaf.Pin pin)
pin_source pin negated (Some _) = Zero

-- a register: its pin polarity, or Q itself
abbrev pub register_source : (negated buffer : Bool) → (cell : Option ℕ) → Option Extension → Source
register_source negated buffer None e = Zero
register_source negated buffer (Some c) None = LeafRead (complement_if negated (not buffer)) (leaf.Q c)
register_source negated buffer (Some c) (Some extension.Fb) = LeafRead (complement_if negated (not buffer)) (leaf.Q c)
register_source negated buffer (Some c) (Some extension.Q) = LeafRead false (leaf.Q c)
register_source negated buffer (Some c) (Some _) = Zero

-- a node: its value
abbrev pub node_source : (node : ℕ) → Option Extension → Source
node_source n None = LeafRead false (leaf.Node n)
node_source n (Some e) = Zero

-- a signal on a pin
abbrev pub on_pin : Table → Entry → (pin : ℕ) → (negated : Bool) → (stored : Bool)
    → Option Extension → Source
on_pin t x pin negated true e = register_source negated (follows_q x) (cell_on t pin) e
on_pin t x pin negated false e = pin_source pin negated e

-- by what the name is declared as
abbrev pub source_by : Table → Entry → Kind → Option Extension → Source
source_by t x (APin pin negated) e = on_pin t x pin negated (is_stored x) e
source_by t x (ANode n) e = node_source n e
source_by t x (AConstant value) e = Zero
source_by t x ADeviceName e = Zero

-- what a signal reads
abbrev pub source_of : Context → (signal : ℕ) → Option Extension → Source
source_of d s e = source_by d.device (name_at d s) (name_at d s).kind e
