-- Outputs that would take far fewer rows in the other polarity (this project's rule: docs/MANUAL.md).
use Rattle.std.specs.Prelude.{◌≡◌, ℕ, ◌*◌, ◌<◌, ◌≤◌, nat_le, nat_lt, Bool, true, false, ◌&&◌, if◌then◌else◌, Option, None, Some, List, length, get_or, filter_map, option_map}
use Rattle.std.specs.Global.{Vec}
use Rattle.abel_meaning.specs.Netlists.{plain_netlist}
use Rattle.bit_expr.specs.declared.netlist.CellWanted.{CellWanted}
use Rattle.bit_expr.specs.declared.netlist.Netlist.{Netlist}
use Rattle.covers.specs.declared.cube.Cube.{Cube}
use Rattle.fit_plans.specs.Covered.{IsTriedAs}
use Rattle.fitter.specs.Plans.{IsTurnMask, cell_wanted}
use Rattle.pld_base.specs.Bits.{bits, is_on}
use Rattle.pld_device.specs.Table.{Table, cell_at}
use Rattle.pld_device.specs.declared.cell.Cell.{Cell}
use Rattle.design_page.specs.declared.costs.CostlyPolarity.{CostlyPolarity}

-- the rows are at least three times those of the other polarity, of which there are some
abbrev pub IsCostly : CostlyPolarity → Type 0
IsCostly found = (0 < found.other) × (3 * found.other ≤ found.rows)

-- how many rows a cell takes in a form, by the cover that the fitter makes in it; none if it may not have the form, or is
-- too wide in it
pub record TakesRows (t : Table) (net : Netlist) (w : CellWanted) (inverted : Bool) (rows : Option ℕ) : Type 0 where
  pub mask : ℕ
  pub mask_is : IsTurnMask t (plain_netlist net) mask
  pub cover : Option (Vec Cube)
  pub tried : IsTriedAs t.flip (length t.pairs) mask net w inverted cover
  pub rows_are : rows ≡ option_map (λ (v : Vec Cube). length v.items) cover

abbrev pub is_costly : (rows other : ℕ) → Bool
is_costly rows other = nat_lt 0 other && nat_le (3 * other) rows

-- the output of a cell that takes so many rows in its direct form and in the inverted one: reported if the first fit its
-- room and are costly
abbrev pub costly_of : Cell → (direct inverted : Option ℕ) → Option CostlyPolarity
costly_of cell (Some rows) (Some other) =
    if nat_le rows cell.room && is_costly rows other then Some (record { pin = cell.pin; rows = rows; other = other }) else None
costly_of cell (Some rows) None = None
costly_of cell None inverted = None

-- what is reported of an assigned cell
pub record TellsCost (t : Table) (net : Netlist) (c : ℕ) (w : CellWanted) (told : Option CostlyPolarity) : Type 0 where
  pub direct : Option ℕ
  pub inverted : Option ℕ
  pub direct_is : TakesRows t net w false direct
  pub inverted_is : TakesRows t net w true inverted
  pub told_is : told ≡ costly_of (cell_at t c) direct inverted

-- what is reported of a cell whose pin is asked for or not: nothing if it isn't, or the cell isn't assigned
abbrev pub TellsCell : Table → Netlist → ℕ → (asked : Bool) → Option CellWanted → Option CostlyPolarity → Type 0
TellsCell t net c false wanted told = told ≡ None
TellsCell t net c true None told = told ≡ None
TellsCell t net c true (Some w) told = TellsCost t net c w told

-- bit p of the number asks for pin p
abbrev pub is_asked : ℕ → Cell → Bool
is_asked pins cell = is_on (bits 32 pins) cell.pin

-- the list has what is reported of the cells below a number, in the order of cells
pub record TellsBelow (t : Table) (net : Netlist) (pins : ℕ) (c : ℕ) (list : List CostlyPolarity) : Type 0 where
  pub told : List (Option CostlyPolarity)
  pub count : length told ≡ c
  pub each : (d : ℕ) → d < c → TellsCell t net d (is_asked pins (cell_at t d)) (cell_wanted net d) (get_or told d None)
  pub list_is : list ≡ filter_map (λ (o : Option CostlyPolarity). o) told
