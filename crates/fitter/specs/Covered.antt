-- Private: the covers of all cells of a netlist (this project's rule).
use Rattle.std.specs.Prelude.{◌≡◌, ℕ, ◌<◌, Option, None, List, length, get_or, Result, Ok, Err}
use Rattle.fitter.specs.Prelude.{Vec, Table, Netlist}
use Rattle.fitter.specs.Plans.{cell_wanted}
use Rattle.fitter.specs.declared.cell_covering.CellCovers.{CellCovers}
use Rattle.fitter.specs.CellCovered.{HasCheckedAs, HasCoversAs}
use Rattle.fitter.specs.Width.{IsFirstWide}
use Rattle.fitter.specs.declared.fault.FitFault.{FitFault}
use Rattle.fitter.specs.declared.fault.FitFault.TheVariants as fault
use Rattle.fitter.specs.Planned.{EachFitsBelow}

-- the cells below a number are not too wide, and have their covers as far as each cell before has one that fits
pub record CoversBelow (t : Table) (mask : ℕ) (net : Netlist) (c : ℕ) (list : List (Option CellCovers)) : Type 0 where
  pub count : length list ≡ c
  pub each : (d : ℕ) → d < c → HasCheckedAs t mask net (cell_wanted net d) (get_or list d None)
  pub tried : (d : ℕ) → d < c → EachFitsBelow t list d → HasCoversAs t mask net (cell_wanted net d) (get_or list d None)

-- each of the cells below a number has its covers
abbrev pub EachCoveredBelow : Table → (mask : ℕ) → Netlist → ℕ → List (Option CellCovers) → Type 0
EachCoveredBelow t mask net c list = (d : ℕ) → d < c → HasCoversAs t mask net (cell_wanted net d) (get_or list d None)

-- those of all cells; TooWide with the first cell that is, by the place of its target
abbrev pub AreCovered : Table → (mask : ℕ) → Netlist → Result (Vec (Option CellCovers)) FitFault → Type 0
AreCovered t mask net (Ok list) = CoversBelow t mask net (length t.cells) list.items
AreCovered t mask net (Err (fault.TooWide c)) = IsFirstWide t net c
AreCovered t mask net (Err fault.OutOfMemory) = Unit {0}
AreCovered t mask net (Err _) = ⊥
