-- When an accepted module does not fit its device, and when it always does (this project's rule).
use Rattle.std.specs.Prelude.{◌≡◌, ℕ, ◌≤◌, Bool, true, Some, List, length, Err}
use Rattle.compile_phases.specs.Prelude.{Table, cell_at, Netlist, ModuleTree, names_of, fit_text, FitFault, FitAnswers, HasControls}
use Rattle.bit_expr.specs.declared.netlist.CellWanted.{CellWanted}
use Rattle.covers.specs.declared.cube.Cube.{Cube}
use Rattle.fit_plans.specs.Tries.{allowed_of, needed_of}
use Rattle.fitter.specs.Plans.{cell_wanted}
use Rattle.fit_plans.specs.Forms.{may_be_inverted_as, rows_are_positive}
use Rattle.fitter.specs.declared.fault.FitFault.TheVariants as fit
use Rattle.compile_phases.specs.SourceRefusals.{IsNetlistOf, IsAcceptedFor}

-- the netlist of an accepted module does not fit, and so it is reported
pub record IsUnfitFor (f : FitFault) (line : List ℕ) (t : Table) (m : ModuleTree) : Type 0 where
  pub accepted : IsAcceptedFor t m
  pub net : Netlist
  pub netlist : IsNetlistOf t m net
  pub unfit : FitAnswers t net (Err f)
  pub told : fit_text t (names_of t m) net f ≡ Some line

-- it is a fault of the fit, and none of the source
abbrev pub IsOfFit : FitFault → Type 0
IsOfFit (fit.TooWide c) = ⊥
IsOfFit fit.OutOfMemory = ⊥
IsOfFit _ = Unit {0}

-- ---- what always fits

-- some form that the cell may have has written lists within its room
pub record HasRoom (t : Table) (net : Netlist) (w : CellWanted) : Type 0 where
  pub inverted : Bool
  pub allowed_form : may_be_inverted_as t.flip w inverted ≡ true
  pub needed : List Cube
  pub needed_is : needed_of net w.function (rows_are_positive t.flip w inverted) ≡ Some needed
  pub allowed : List Cube
  pub allowed_is : allowed_of net w.function (rows_are_positive t.flip w inverted) ≡ Some allowed
  pub needed_few : length needed ≤ (cell_at t w.cell).room
  pub allowed_few : length allowed ≤ (cell_at t w.cell).room

-- the module fits as it is written: its controls are shared and one product each, and each assigned cell has room
pub record FitsAsWritten (t : Table) (m : ModuleTree) : Type 0 where
  pub net : Netlist
  pub netlist : IsNetlistOf t m net
  pub controls : HasControls t net
  pub rooms : (c : ℕ) (w : CellWanted) → cell_wanted net c ≡ Some w → HasRoom t net w
