-- What the netlist of a decompiled source is, and that it allows what the fuses do (this project's rule).
use Rattle.std.specs.Prelude.{◌≡◌, ℕ, ◌<◌, Bool, true, false, not, Option, None, Some, List, [], length, map}
use Rattle.decompiled.specs.Prelude.{HasNoDontCare, Enable, Row, PinLow, Driven, Released, IsDevice, device_logic, pin_complements, is_inverted, stores, Table, cell_at, Leaf, Formula, Const}
use Rattle.pld_machine.specs.Refines.{Refines}
use Rattle.abel_meaning.specs.NetlistLogic.{netlist_logic}
use Rattle.abel_meaning.specs.Netlists.{PlainNetlist, Wanted, own_or_shared, wanted_at}
use Rattle.decompiled.specs.declared.literal.PinLiteral.{PinLiteral}
use Rattle.decompiled.specs.SumFormulas.{sum_formula}
use Rattle.decompiled.specs.Sources.{control_products, data_line, has_lines, live_rows, product_of}
use Rattle.decompiled.specs.RowSums.{HasRowSizes, ReadsPairs}

-- the formula of an enable row; none without such a row
abbrev pub enable_formula : Table → List Bool → (PinLiteral → Leaf) → Enable → Option Formula
enable_formula t fuses leaf_of (Row row) = Some (sum_formula leaf_of (control_products t fuses row))
enable_formula t fuses leaf_of (PinLow pin) = None
enable_formula t fuses leaf_of Driven = None
enable_formula t fuses leaf_of Released = None

-- the formula of the row of all registers that there may be
abbrev pub shared_formula : Table → List Bool → (PinLiteral → Leaf) → Option ℕ → Formula
shared_formula t fuses leaf_of None = Const false
shared_formula t fuses leaf_of (Some row) = sum_formula leaf_of (control_products t fuses row)

-- what is asked of a cell that has lines
pub record IsCellAsked (t : Table) (fuses : List Bool) (leaf_of : PinLiteral → Leaf) (c : ℕ) (w : Wanted) : Type 0 where
  pub registered : w.registered ≡ stores t fuses c
  pub buffer : stores t fuses c ≡ true → w.buffer ≡ not (pin_complements t.flip true (is_inverted t fuses c))
  pub negated : w.negated ≡ false
  pub raw : w.raw ≡ stores t fuses c
  pub function : w.function ≡ record { one = sum_formula leaf_of (map (product_of t fuses) (live_rows t fuses c)); any = Const false; complement = (data_line t fuses c).negated }
  pub enable : w.enable ≡ enable_formula t fuses leaf_of (cell_at t c).enable

-- the netlist has these cells and no nodes, and the registers share the reset and the preset row
pub record IsFusesNetlist (t : Table) (fuses : List Bool) (leaf_of : PinLiteral → Leaf) (net : PlainNetlist) : Type 0 where
  pub nodes : net.nodes ≡ []
  pub assigned : (c : ℕ) → c < length t.cells → has_lines t fuses c ≡ true → (w : Wanted) × (wanted_at net c ≡ Some w) × IsCellAsked t fuses leaf_of c w
  pub unassigned : (c : ℕ) → c < length t.cells → has_lines t fuses c ≡ false → wanted_at net c ≡ None
  pub reset : (c : ℕ) → c < length t.cells → stores t fuses c ≡ true → own_or_shared (λ (w : Wanted). w.reset) net c ≡ shared_formula t fuses leaf_of t.reset
  pub preset : (c : ℕ) → c < length t.cells → stores t fuses c ≡ true → own_or_shared (λ (w : Wanted). w.preset) net c ≡ shared_formula t fuses leaf_of t.preset

-- each allows no more than the other, and there is no don't-care
pub record AreAlike (t : Table) (fuses : List Bool) (net : PlainNetlist) : Type 0 where
  pub to : Refines (device_logic t fuses) (netlist_logic t net)
  pub from : Refines (netlist_logic t net) (device_logic t fuses)
  pub one_value : HasNoDontCare (netlist_logic t net)

-- so it is of every device and the netlist that asks this of its cells
abbrev pub LogicsAreAlike : Type 0
LogicsAreAlike =
    (t : Table) (fuses : List Bool) (leaf_of : PinLiteral → Leaf) (net : PlainNetlist) → IsDevice t
    → HasRowSizes t fuses → ReadsPairs t fuses leaf_of → IsFusesNetlist t fuses leaf_of net
    → AreAlike t fuses net
