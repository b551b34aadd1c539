-- Whose each row of a device is, and the cube that it is to hold (this project's rule).
use Rattle.std.specs.Prelude.{◌≡◌, ℕ, suc, ◌-◌, ◌<◌, ◌==◌, Bool, false, ◌&&◌, nat_le, nat_lt, if◌then◌else◌, Option, Some, None, List, [], ◌∷◌, length, slice_get}
use Rattle.fit_plans.specs.Prelude.{Cube, IsDevice, Table, IsDataRow, cell_at}
use Rattle.pld_device.specs.declared.cell.Cell.{Cell}
use Rattle.pld_device.specs.declared.enable.Enable.{Enable}
use Rattle.pld_device.specs.declared.enable.Enable.TheVariants.{Row, PinLow, Driven, Released}
use Rattle.fit_plans.specs.declared.plan.CellPlan.{CellPlan}
use Rattle.fit_plans.specs.declared.plan.Owner.{Owner}
use Rattle.fit_plans.specs.declared.plan.Owner.TheVariants.{Data, Enabling, Reset, Preset, Nobody}
use Rattle.fit_plans.specs.declared.plan.Plan.{Plan}

-- the row is one of the cell's data rows
abbrev pub is_data : Cell → ℕ → Bool
is_data cell row = nat_le cell.first row && nat_lt (row - cell.first) cell.room

-- it is the row that enables
abbrev pub enables_as : Enable → ℕ → Bool
enables_as (Row enabling) row = enabling == row
enables_as (PinLow pin) row = false
enables_as Driven row = false
enables_as Released row = false

-- it enables the cell
abbrev pub enables : Cell → ℕ → Bool
enables cell row = enables_as cell.enable row

-- it is the row that there may be
abbrev pub is_row : Option ℕ → ℕ → Bool
is_row None row = false
is_row (Some own) row = own == row

-- whose the row is if it is no cell's
abbrev pub shared_owner : Table → ℕ → Owner
shared_owner t row = if is_row t.reset row then Reset else if is_row t.preset row then Preset else Nobody

-- whose the row is, among the cells from one on
abbrev pub owner_from : Table → ℕ → List Cell → ℕ → Owner
owner_from t c [] row = shared_owner t row
owner_from t c (x ∷ xs) row =
    if is_data x row then Data c (row - x.first) else if enables x row then Enabling c else owner_from t (suc c) xs row

-- whose the row is: data of a cell, with its place among these, or its enable, or the reset or preset of all
unfoldable pub owner : Table → ℕ → Owner
owner t row = owner_from t 0 t.cells row

-- of a cell that may not be planned
abbrev pub of_cell : (CellPlan → Option Cube) → Option CellPlan → Option Cube
of_cell part None = None
of_cell part (Some p) = part p

-- what a row of this owner is to hold
abbrev pub cube_for : Plan → Owner → Option Cube
cube_for p (Data c i) = of_cell (λ (x : CellPlan). slice_get x.rows i) (slice_get p.cells c)
cube_for p (Enabling c) = of_cell (λ (x : CellPlan). x.enable) (slice_get p.cells c)
cube_for p Reset = p.reset
cube_for p Preset = p.preset
cube_for p Nobody = None

-- what the row is to hold
abbrev pub planned : Table → Plan → ℕ → Option Cube
planned t p row = cube_for p (owner t row)

-- by the laws of the device, a row is of those that its table says
pub record HasOwners (t : Table) : Type 0 where
  pub data_rows : (c row : ℕ) → c < length t.cells → IsDataRow t c row → owner t row ≡ Data c (row - (cell_at t c).first)
  pub enables : (c row : ℕ) → c < length t.cells → (cell_at t c).enable ≡ Row row → owner t row ≡ Enabling c
  pub resets : (row : ℕ) → t.reset ≡ Some row → owner t row ≡ Reset
  pub presets : (row : ℕ) → t.preset ≡ Some row → owner t row ≡ Preset

abbrev pub DevicesHaveOwners : Type 0
DevicesHaveOwners = (t : Table) → IsDevice t → HasOwners t
