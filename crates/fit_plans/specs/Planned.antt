-- Fuses of a device by what its rows are to hold (this project's rule).
use Rattle.std.specs.Prelude.{◌≡◌, ℕ, ◌*◌, ◌<◌, ◌≤◌, Bool, Some, List, length, slice_get}
use Rattle.fit_plans.specs.Prelude.{is_on, row_fuses, Table, cell_at}
use Rattle.fit_plans.specs.declared.plan.CellPlan.{CellPlan}
use Rattle.fit_plans.specs.declared.plan.Plan.{Plan}
use Rattle.fit_plans.specs.FuseLists.{planned_row}
use Rattle.fit_plans.specs.Owners.{planned}
use Rattle.fit_plans.specs.RowCubes.{HoldsCubes}

-- as many fuses as the device has; each row holds its cube, or nothing; the fuses past the array are those given; and
-- so the data rows of each cell hold its cubes, if they fit its room, and past these nothing
pub record IsPlanned (t : Table) (plan : Plan) (control fuses : List Bool) : Type 0 where
  pub size : length fuses ≡ t.fuses
  pub rows : (row : ℕ) → row < t.rows → row_fuses t fuses row ≡ planned_row t (planned t plan row)
  pub past : (n : ℕ) → t.columns * t.rows ≤ n → n < t.fuses → is_on fuses n ≡ is_on control n
  pub cells : (c : ℕ) (x : CellPlan) → c < length t.cells → slice_get plan.cells c ≡ Some x
      → length x.rows ≤ (cell_at t c).room → HoldsCubes t fuses (cell_at t c).first (cell_at t c).room x.rows
