-- What the control fuses of a device are to say, beside the rows (the devices' datasheets, macrocell diagrams; row
-- switches and fixed levels are this project's rule).
use Rattle.std.specs.Prelude.{◌≡◌, ℕ, ◌*◌, ◌<◌, ◌≤◌, ◌==◌, Bool, true, false, if◌then◌else◌, Option, Some, None, List, length, get_or, slice_get, is_some}
use Rattle.fit_plans.specs.Prelude.{is_on, same_level, Control, Inverts, Registers, Switches, IsFixed, fuse_for, row_fuses, Table, cell_at, inverted_at, registered_at}
use Rattle.pld_device.specs.declared.fuse_bit.FuseBit.{FuseBit}
use Rattle.fit_plans.specs.declared.control_fuses.CellForm.{CellForm}
use Rattle.fit_plans.specs.declared.plan.CellPlan.{CellPlan}
use Rattle.fit_plans.specs.declared.plan.Plan.{Plan}
use Rattle.fit_plans.specs.FuseLists.{planned_row}
use Rattle.fit_plans.specs.Owners.{planned}
use Rattle.fit_plans.specs.RowCubes.{HoldsCubes}

-- the form of a cell
abbrev pub form_at : List CellForm → ℕ → CellForm
form_at forms c = get_or forms c (record { inverted = false; registered = false })

-- the level by which a control fuse says what is reported, if there is the fuse
abbrev pub told_level : Option FuseBit → Bool → Bool
told_level None told = false
told_level (Some bit) told = same_level bit.level told

-- the level that a control fuse is to have: a row is switched on if it holds a cube
abbrev pub control_level : Table → Plan → List CellForm → Control → Bool
control_level t plan forms (Inverts c) = told_level (inverted_at t c) (form_at forms c).inverted
control_level t plan forms (Registers c) = told_level (registered_at t c) (form_at forms c).registered
control_level t plan forms (Switches row) = is_some (planned t plan row)
control_level t plan forms (IsFixed index) = told_level (slice_get t.fixed index) true

-- the fuse controls nothing
abbrev pub IsNoControl : Table → ℕ → Type 0
IsNoControl t fuse = (what : Control) → fuse_for t what ≡ Some fuse → ⊥

-- a level for a fuse past the array: that of what it controls, and 0 if this is nothing
pub record IsControlLevel (t : Table) (plan : Plan) (forms : List CellForm) (fuse : ℕ) (level : Bool) : Type 0 where
  pub control : (what : Control) → fuse_for t what ≡ Some fuse → level ≡ control_level t plan forms what
  pub free : IsNoControl t fuse → level ≡ false

-- as many fuses as the device has; each row holds its cube, or nothing; each control fuse says what is asked, and all
-- other fuses past the array are 0; and so the data rows of each cell hold its cubes, if they fit its room
pub record IsBurned (t : Table) (plan : Plan) (forms : List CellForm) (fuses : List Bool) : Type 0 where
  pub size : length fuses ≡ t.fuses
  pub rows : (row : ℕ) → row < t.rows → row_fuses t fuses row ≡ planned_row t (planned t plan row)
  pub past : (n : ℕ) → t.columns * t.rows ≤ n → n < t.fuses → IsControlLevel t plan forms n (is_on fuses n)
  pub cells : (c : ℕ) (x : CellPlan) → c < length t.cells → slice_get plan.cells c ≡ Some x
      → length x.rows ≤ (cell_at t c).room → HoldsCubes t fuses (cell_at t c).first (cell_at t c).room x.rows

-- ---- looking for what a fuse controls

-- the level by which the fuse says what is reported; none if the control fuse is another one, or there isn't one
abbrev pub told_by : Option FuseBit → ℕ → Bool → Option Bool
told_by None fuse told = None
told_by (Some bit) fuse told = if bit.fuse == fuse then Some (same_level bit.level told) else None

-- a level that was found is that of something that the fuse controls
abbrev pub IsFoundFor : Table → (Control → Bool) → ℕ → Option Bool → Type 0
IsFoundFor t levels fuse None = Unit {0}
IsFoundFor t levels fuse (Some level) = (what : Control) × (fuse_for t what ≡ Some fuse) × (level ≡ levels what)

-- the fuse is neither the polarity nor the kind of the cell
abbrev pub IsNoCells : Table → ℕ → ℕ → Type 0
IsNoCells t fuse c = (fuse_for t (Inverts c) ≡ Some fuse → ⊥) × (fuse_for t (Registers c) ≡ Some fuse → ⊥)
