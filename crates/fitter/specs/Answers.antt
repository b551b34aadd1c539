-- What fitting a netlist answers, and when: the first refusal of these, in this order (this project's rule).
use Rattle.std.specs.Prelude.{◌≡◌, ℕ, ◌<◌, Some, length, Result, Ok, Err}
use Rattle.fitter.specs.Prelude.{Table, CellWanted, Netlist, plain_netlist, netlist_shown, AreShared, IsFitted, Tried}
use Rattle.fitter.specs.Plans.{IsTurnMask, cell_wanted}
use Rattle.fitter.specs.declared.shared.SharedControl.TheVariants.{Preset, Reset}
use Rattle.fitter.specs.Sharing.{own_formula}
use Rattle.fitter.specs.Width.{IsFirstWide, NoneWide}
use Rattle.fitter.specs.declared.fault.FitFault.{FitFault}
use Rattle.fitter.specs.declared.fault.FitFault.TheVariants.{EnableTooWide, NotShared, OutOfMemory, PresetTooWide, ResetTooWide, TooManyProducts, TooWide}
use Rattle.fitter.specs.declared.answer.Fitted.{Fitted}
use Rattle.fitter.specs.Order.{AreRowsInOrder}
use Rattle.fitter.specs.Products.{DifferIn, EnablesBelow, IsFirstSum, IsSharedProduct, IsSharedSum}
use Rattle.fitter.specs.Rows.{AreFittedCells, CoversFitBelow, IsOverRoom}

-- the controls are shared, and each is one product or 0
pub record HasControls (t : Table) (net : Netlist) : Type 0 where
  pub wide : NoneWide t net
  pub reset : IsSharedProduct t net Reset
  pub preset : IsSharedProduct t net Preset
  pub enables : EnablesBelow t net (length t.cells)

-- the answer has the fuses of the netlist under the choice that they show, and its cells' rows, which are written in order
pub record IsFitOf (t : Table) (net : Netlist) (fitted : Fitted) : Type 0 where
  pub controls : HasControls t net
  pub fits : IsFitted t (netlist_shown t fitted.fuses (plain_netlist net)) fitted.fuses
  pub cells : AreFittedCells t net fitted.fuses fitted.cells
  pub order : (c : ℕ) (w : CellWanted) → c < length t.cells → cell_wanted net c ≡ Some w → AreRowsInOrder t fitted.fuses c

-- the cell is too wide for its room in every form, by these covers over the columns, and the controls are not; and of each
-- cell before it a cover that was tried fits
pub record IsTooMany (t : Table) (net : Netlist) (c : ℕ) (tried : Tried) : Type 0 where
  pub controls : HasControls t net
  pub mask : ℕ
  pub mask_is : IsTurnMask t (plain_netlist net) mask
  pub over : IsOverRoom t mask net c tried
  pub before : CoversFitBelow t mask net c

-- each answer with its cause; lack of memory says nothing
abbrev pub FitAnswers : Table → Netlist → Result Fitted FitFault → Type 0
FitAnswers t net (Ok fitted) = IsFitOf t net fitted
FitAnswers t net (Err (TooWide c)) = IsFirstWide t net c
FitAnswers t net (Err (NotShared which a b point)) = NoneWide t net × DifferIn t net which a b point
FitAnswers t net (Err ResetTooWide) =
    NoneWide t net × AreShared t (plain_netlist net) (own_formula Preset) × IsSharedSum t net Reset
FitAnswers t net (Err PresetTooWide) = NoneWide t net × IsSharedProduct t net Reset × IsSharedSum t net Preset
FitAnswers t net (Err (EnableTooWide c)) =
    NoneWide t net × IsSharedProduct t net Reset × IsSharedProduct t net Preset × IsFirstSum t net c
FitAnswers t net (Err (TooManyProducts c tried)) = IsTooMany t net c tried
FitAnswers t net (Err OutOfMemory) = Unit {0}
