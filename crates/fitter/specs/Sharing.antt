-- The resets, or presets, of a device's registers: one for all, or two that differ (this project's rule).
use Rattle.std.specs.Prelude.{◌≡◌, ◌≢◌, ℕ, ◌<◌, ◌≤◌, nat_lt, Bool, true, ◌&&◌, if◌then◌else◌, List, Option, Some, None, is_some, Result, Ok, Err, length}
use Rattle.fitter.specs.Prelude.{option_map, Point, Levels, levels_of, Table, CellWanted, Control, Netlist, ExprId, arena, formula_at, Formula, formula_value, PlainNetlist, Wanted, first_with, plain_netlist, plain_wanted, shared_function, wanted_at, Cube, CoversList, IsValuedFor, AreShared, bit_list}
use Rattle.fitter.specs.Coverable.{IsSoundId}
use Rattle.fitter.specs.Plans.{cell_wanted}
use Rattle.fitter.specs.Missing.{IsApart}
use Rattle.fitter.specs.declared.shared.SharedControl.{SharedControl}
use Rattle.fitter.specs.declared.shared.SharedControl.TheVariants.{Preset, Reset}
use Rattle.fitter.specs.declared.sharing.NotShared.{NotShared}
use Rattle.fitter.specs.declared.stop.Stop.{Stop}
use Rattle.fitter.specs.declared.stop.Stop.TheVariants.{Refused, Memory}

-- a cell's own reset, or preset
abbrev pub own_control : SharedControl → CellWanted → Option Control
own_control Reset w = w.reset
own_control Preset w = w.preset

-- the same over formulas
abbrev pub own_formula : SharedControl → Wanted → Option Formula
own_formula Reset w = w.reset
own_formula Preset w = w.preset

-- the equation of each cell has a written list
abbrev pub AllListed : Netlist → SharedControl → Type 0
AllListed net which =
    (c : ℕ) (w : CellWanted) (control : Control) → cell_wanted net c ≡ Some w → own_control which w ≡ Some control
    → bit_list net control.bit true ≡ None → ⊥

-- the bit is that of the function which all share, and each cell's own has its value
pub record IsSharedBit (t : Table) (net : Netlist) (which : SharedControl) (bit : ExprId) : Type 0 where
  pub id : IsSoundId t net bit
  pub formula : formula_at (arena net.exprs) bit ≡ shared_function (own_formula which) (plain_netlist net)
  pub listed : bit_list net bit true ≡ None → ⊥
  pub shared : AreShared t (plain_netlist net) (own_formula which)

-- the cells below a number share the function
abbrev pub AreSharedBelow : Table → PlainNetlist → (Wanted → Option Formula) → ℕ → Type 0
AreSharedBelow t net own c =
    (d : ℕ) (w : Wanted) (f : Formula) → d < c → wanted_at net d ≡ Some w → own w ≡ Some f
    → (at : Levels) → IsValuedFor t net at → formula_value at f ≡ formula_value at (shared_function own net)

-- the first cell is that of least name which has such an equation, and the second the first in the device's order whose
-- own differs from it: it does at the point, whose nodes are valued with any as 0
pub record AreNotShared (t : Table) (net : PlainNetlist) (own : Wanted → Option Formula) (a b : ℕ) (point : Point) : Type 0 where
  pub first : Wanted
  pub first_is : first_with own net.cells ≡ Some first
  pub first_cell : first.cell ≡ a
  pub second : Wanted
  pub second_is : wanted_at net b ≡ Some second
  pub function : Formula
  pub function_is : own second ≡ Some function
  pub valued : IsValuedFor t net (levels_of point)
  pub differ : formula_value (levels_of point) function ≢ formula_value (levels_of point) (shared_function own net)
  pub before : AreSharedBelow t net own b

-- what looking for the shared function answers
abbrev pub Shares : Table → Netlist → SharedControl → Result ExprId (Stop NotShared) → Type 0
Shares t net which (Ok bit) = IsSharedBit t net which bit
Shares t net which (Err (Refused r)) = AreNotShared t (plain_netlist net) (own_formula which) r.first r.second r.at
Shares t net which (Err Memory) = Unit {0}

-- ---- private: on the way to the first cell and the first difference

-- the cell precedes the other one, by name
abbrev pub is_earlier : CellWanted → Option CellWanted → Bool
is_earlier w None = true
is_earlier w (Some best) = nat_lt w.name best.name

-- the best so far, once a cell more was seen
abbrev pub better_of : SharedControl → Option CellWanted → CellWanted → Option CellWanted
better_of which best w = if is_some (own_control which w) && is_earlier w best then Some w else best

-- the cell that has the least name among those with such an equation
abbrev pub IsFirstWith : Netlist → SharedControl → Option CellWanted → Type 0
IsFirstWith net which found =
    first_with (own_formula which) (plain_netlist net).cells ≡ option_map (plain_wanted (arena net.exprs)) found

-- the cell's own written list and the given one differ at the point
pub record IsApartAt (net : Netlist) (which : SharedControl) (c vars : ℕ) (rows : List Cube) (point : ℕ) : Type 0 where
  pub cell : CellWanted
  pub wanted : cell_wanted net c ≡ Some cell
  pub control : Control
  pub own : own_control which cell ≡ Some control
  pub list : List Cube
  pub list_is : bit_list net control.bit true ≡ Some list
  pub apart : IsApart rows list vars point

-- the cell's own written list, if it has an equation, has the points of the given one
abbrev pub IsAlikeAt : Netlist → SharedControl → (c vars : ℕ) → List Cube → Type 0
IsAlikeAt net which c vars rows =
    (w : CellWanted) (control : Control) (list : List Cube) → cell_wanted net c ≡ Some w → own_control which w ≡ Some control
    → bit_list net control.bit true ≡ Some list → CoversList list rows vars × CoversList rows list vars

-- a point at which they differ, if there is one
abbrev pub FindsApartAt : Netlist → SharedControl → (c vars : ℕ) → List Cube → Option ℕ → Type 0
FindsApartAt net which c vars rows None = IsAlikeAt net which c vars rows
FindsApartAt net which c vars rows (Some point) = IsApartAt net which c vars rows point

-- a bit with its written list
pub record IsListedBit (t : Table) (net : Netlist) (bit : ExprId) (rows : List Cube) : Type 0 where
  pub id : IsSoundId t net bit
  pub list : bit_list net bit true ≡ Some rows
  pub few : length rows ≤ 1024

-- the first cell with such an equation, and its bit
pub record IsFirstOf (t : Table) (net : Netlist) (which : SharedControl) (first : CellWanted) (bit : ExprId) : Type 0 where
  pub is_first : IsFirstWith net which (Some first)
  pub id : IsSoundId t net bit
  pub own : (control : Control) → own_control which first ≡ Some control → control.bit ≡ bit
  pub has : is_some (own_control which first) ≡ true
  pub listed : bit_list net bit true ≡ None → ⊥
