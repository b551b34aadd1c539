-- Private: fuses that were burned for the rows of all cells (this project's rule).
use Rattle.std.specs.Prelude.{ℕ, List, length}
use Rattle.fitter.specs.Prelude.{option_map, Table, Netlist, turned, CellPlan, Plan, IsBurned}
use Rattle.fitter.specs.declared.answer.Fitted.{Fitted}
use Rattle.fitter.specs.declared.planning.AllRows.{AllRows}
use Rattle.fitter.specs.declared.shared_rows.SharedRows.{SharedRows}
use Rattle.fitter.specs.Planned.{EntriesBelow}
use Rattle.fitter.specs.Turning.{AreTurned, IsChoiceMask}

-- the plan of rows that were turned, with the shared ones turned too
abbrev pub plan_of : (mask : ℕ) → SharedRows → List CellPlan → Plan
plan_of mask shared plans =
    record { cells = plans; reset = option_map (turned mask) shared.reset; preset = option_map (turned mask) shared.preset }

-- the rows are turned if the free registers that are inverted store the complement; the fuses hold them, and the entries are
-- those of the cells
pub record IsBurnedPlan (t : Table) (net : Netlist) (shared : SharedRows) (rows : AllRows) (fitted : Fitted) : Type 0 where
  pub choice : ℕ
  pub choice_is : IsChoiceMask t net rows.forms.items choice
  pub plans : List CellPlan
  pub turned_are : AreTurned t choice rows.plans.items plans
  pub burned : IsBurned t (plan_of choice shared plans) rows.forms.items fitted.fuses
  pub entries : EntriesBelow t net plans rows.forms.items (length t.cells) fitted.cells
