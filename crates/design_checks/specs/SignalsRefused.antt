-- What of a design is refused by its names and its targets (the devices' datasheets, macrocell diagrams; what is refused,
-- and where, is this project's rule).
use Rattle.std.specs.Prelude.{ℕ, suc, ◌<◌, Bool, true, false, not, ◌&&◌, ◌||◌, Option, Some, is_some, is_none, List, [], ◌∷◌, ◌++◌, All}
use Rattle.design_checks.specs.Prelude.{Table, Extension, Kind, APin, ANode, Entry, is_stored, is_data, Contribution}
use Rattle.abel_meaning.specs.SignalPins.{is_registered_node}
use Rattle.abel_tree.specs.declared.words.Extension.TheVariants as extension
use Rattle.set_expr.specs.declared.contributions.Gives.{Gives}
use Rattle.set_expr.specs.declared.contributions.Gives.TheVariants as gives
use Rattle.design_checks.specs.declared.refused.RefusedUse.{RefusedUse}
use Rattle.design_checks.specs.UsesRefused.{told_if}

-- ---- names

-- a node is no register; this name has this number
abbrev pub node_refused : ℕ → Entry → List RefusedUse
node_refused s x = told_if (is_registered_node x) (record { place = x.place; name = s })

-- all of them, at their declarations; the first name has this number
abbrev pub registered_nodes : ℕ → List Entry → List RefusedUse
registered_nodes s [] = []
registered_nodes s (x ∷ xs) = node_refused s x ++ registered_nodes (suc s) xs

-- ---- targets

-- a combinational signal has its enable alone; a register its clock and raw input too, and reset and preset if the device
-- has them
abbrev pub pin_lacks : Table → (stored : Bool) → Option Extension → Bool
pin_lacks t stored (Some extension.Ar) = not stored || is_none t.reset
pin_lacks t stored (Some extension.Sp) = not stored || is_none t.preset
pin_lacks t stored (Some extension.Clk) = not stored
pin_lacks t stored (Some extension.D) = not stored
pin_lacks t stored _ = false

-- a node has nothing but its value
abbrev pub lacks_by : Table → (stored : Bool) → Kind → Option Extension → Bool
lacks_by t stored (APin pin negated) e = pin_lacks t stored e
lacks_by t stored (ANode n) e = is_some e
lacks_by t stored _ e = false

abbrev pub lacks_control : Table → Entry → Option Extension → Bool
lacks_control t x e = lacks_by t (is_stored x) x.kind e

-- it gives any
abbrev pub is_any : Gives → Bool
is_any gives.Any = true
is_any _ = false

-- a control is assigned by `?=`
abbrev pub is_control_by_any : Contribution → Bool
is_control_by_any c = not (is_data c.target.extension) && is_any c.what

-- each contribution is to one of so many names
abbrev pub AreToNames : (count : ℕ) → List Contribution → Type 0
AreToNames count cs = All (λ (c : Contribution). c.target.signal < count) cs
