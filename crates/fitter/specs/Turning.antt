-- Private: the rows of all cells over what the columns carry once the forms are chosen (this project's rule).
use Rattle.std.specs.Prelude.{◌≡◌, ℕ, ◌<◌, ◌^◌, ◌==◌, Bool, false, Some, List, get_or, length, slice_get}
use Rattle.fitter.specs.Prelude.{bit_at, IsPermutation, option_map, Carry, Table, Netlist, all_turned, turned, CellForm, CellPlan}
use Rattle.pld_device.specs.declared.carry.Carry.TheVariants as carry
use Rattle.fitter.specs.Plans.{is_chosen}
use Rattle.fitter.specs.Rows.{Rises}

-- a pair carries a cell that stores the complement in these forms
abbrev pub carries_choice : Netlist → List CellForm → Carry → Bool
carries_choice net forms (carry.Pin p) = false
carries_choice net forms (carry.Cell c) = is_chosen net forms c

-- bit v of the mask says so of pair v
pub record IsChoiceMask (t : Table) (net : Netlist) (forms : List CellForm) (mask : ℕ) : Type 0 where
  pub low : mask < 2 ^ 32
  pub bits : (v : ℕ) → v < length t.pairs → (bit_at mask v == 1) ≡ carries_choice net forms (get_or t.pairs v (carry.Pin 0))

-- the rows of a cell with the levels of these pairs exchanged, in rising order
pub record IsTurnedCell (t : Table) (mask : ℕ) (x y : CellPlan) : Type 0 where
  pub enable : y.enable ≡ option_map (turned mask) x.enable
  pub same : IsPermutation (all_turned mask x.rows) y.rows
  pub rise : Rises t.columns y.rows

-- those of the cell of a number
pub record HasTurned (t : Table) (mask : ℕ) (news : List CellPlan) (k : ℕ) (x : CellPlan) : Type 0 where
  pub cell : CellPlan
  pub there : slice_get news k ≡ Some cell
  pub is : IsTurnedCell t mask x cell

-- those of all cells
pub record AreTurned (t : Table) (mask : ℕ) (olds news : List CellPlan) : Type 0 where
  pub count : length news ≡ length olds
  pub each : (k : ℕ) (x : CellPlan) → slice_get olds k ≡ Some x → HasTurned t mask news k x
