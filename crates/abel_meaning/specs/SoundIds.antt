-- Netlists over an arena that a device can take: their ids lie in it, and their pairs are the device's (this
-- project's rule).
use Rattle.std.specs.Prelude.{◌≡◌, ℕ, ◌<◌, ◌==◌, Option, Some, None, length, All, get_or, position, unwrap_or}
use Rattle.abel_meaning.specs.Prelude.{carries_cell, pair_pins, Table, CellWanted, Control, Function, Netlist, arena}
use Rattle.bit_expr.specs.declared.node.ExprId.{ExprId}
use Rattle.abel_meaning.specs.Netlists.{plain_netlist}
use Rattle.abel_meaning.specs.Soundness.{IsSound}

-- ---- ids

-- the id lies in an arena of that many formulas
abbrev pub IsIn : ℕ → ExprId → Type 0
IsIn count id = id.0 < count

-- both ids of a function do
abbrev pub IsFunctionIn : ℕ → Function → Type 0
IsFunctionIn count f = IsIn count f.one × IsIn count f.any

-- that of a control, if there is one, does
abbrev pub IsControlIn : ℕ → Option Control → Type 0
IsControlIn count None = Unit {0}
IsControlIn count (Some control) = IsIn count control.bit

-- all ids of a cell do
pub record IsCellIn (count : ℕ) (w : CellWanted) : Type 0 where
  pub function : IsFunctionIn count w.function
  pub enable : IsControlIn count w.enable
  pub reset : IsControlIn count w.reset
  pub preset : IsControlIn count w.preset

-- ---- pairs

-- what represents a pair if there isn't one
abbrev pub no_pair : ℕ
no_pair = 255

-- the pair of a pin, or of the cell on it
abbrev pub pair_of_pin : Table → ℕ → ℕ
pair_of_pin t pin = unwrap_or (position (λ p. p == pin) (pair_pins t)) no_pair

-- the pair of a cell
abbrev pub pair_of_cell : Table → ℕ → ℕ
pair_of_cell t c = unwrap_or (position (carries_cell c) t.pairs) no_pair

-- ---- the whole netlist

-- the netlist is one for the device, its ids lie in its arena, and its pairs are the device's
pub record IsSoundNetlist (t : Table) (net : Netlist) : Type 0 where
  pub nodes : All (IsFunctionIn (length (arena net.exprs))) net.nodes
  pub cells : All (IsCellIn (length (arena net.exprs))) net.cells
  pub pins : (p : ℕ) → p < 25 → get_or net.pair_of_pin p no_pair ≡ pair_of_pin t p
  pub registers : (c : ℕ) → c < 25 → get_or net.pair_of_cell c no_pair ≡ pair_of_cell t c
  pub sound : IsSound t (plain_netlist net)
