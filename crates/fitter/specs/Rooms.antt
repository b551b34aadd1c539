-- Cells that are over their room (this project's rule).
use Rattle.std.specs.Prelude.{◌≡◌, ℕ, ◌<◌, min, Option, Some, None, List, ◌++◌, length, get_or, filter_map, Result, Ok, Err}
use Rattle.fitter.specs.Prelude.{Vec, option_to_list, Table, cell_at, CellWanted, Netlist, Cube, Tried, plain_netlist}
use Rattle.fitter.specs.Plans.{IsTurnMask, cell_wanted}
use Rattle.fitter.specs.Width.{IsFirstWide}
use Rattle.fitter.specs.Rows.{HasFittingCover, IsOverRoom}
use Rattle.fitter.specs.Planned.{OneFitsAt}
use Rattle.fitter.specs.Planned.{IsOver as IsOverBy}
use Rattle.fitter.specs.declared.cell_covering.CellCovers.{CellCovers}
use Rattle.fitter.specs.declared.fault.FitFault.{FitFault}
use Rattle.fitter.specs.declared.fault.FitFault.TheVariants.{OutOfMemory, TooWide}
use Rattle.fitter.specs.declared.rooms.Overfull.{Overfull}

-- both covers of the cell have more rows than it has room for
abbrev pub IsOver : Overfull → Type 0
IsOver over = over.room < over.rows

-- how many rows the smaller one of two covers has, or the only one
abbrev pub fewest_rows : Option (Vec Cube) → Option (Vec Cube) → Option ℕ
fewest_rows None None = None
fewest_rows (Some rows) None = Some (length rows.items)
fewest_rows None (Some rows) = Some (length rows.items)
fewest_rows (Some rows) (Some others) = Some (min (length rows.items) (length others.items))

-- an entry has the cell's pin and room, and the rows of the smaller one of the covers that were tried
pub record TellsCell (t : Table) (c : ℕ) (tried : Tried) (over : Overfull) : Type 0 where
  pub pin : over.pin ≡ (cell_at t c).pin
  pub room : over.room ≡ (cell_at t c).room
  pub rows : fewest_rows tried.direct tried.inverted ≡ Some over.rows

-- the entry of a cell that is over its room
pub record IsOverfull (t : Table) (mask : ℕ) (net : Netlist) (c : ℕ) (over : Overfull) : Type 0 where
  pub tried : Tried
  pub is_over : IsOverRoom t mask net c tried
  pub tells : TellsCell t c tried over

-- what is reported of a cell: its entry if it is over its room, and nothing if it isn't assigned or a cover of it fits
abbrev pub IsToldAt : Table → (mask : ℕ) → Netlist → ℕ → Option Overfull → Type 0
IsToldAt t mask net c (Some over) = IsOverfull t mask net c over
IsToldAt t mask net c None = (w : CellWanted) → cell_wanted net c ≡ Some w → HasFittingCover t mask net c w

-- the list has what is reported of the cells below a number, in the order of cells
pub record TellsBelow (t : Table) (mask : ℕ) (net : Netlist) (c : ℕ) (list : List Overfull) : Type 0 where
  pub told : List (Option Overfull)
  pub count : length told ≡ c
  pub each : (d : ℕ) → d < c → IsToldAt t mask net d (get_or told d None)
  pub list_is : list ≡ filter_map (λ (o : Option Overfull). o) told

-- the list has just the cells that are over their room; TooWide with the first cell that is, by the place of its target
abbrev pub AreOverfull : Table → Netlist → Result (List Overfull) FitFault → Type 0
AreOverfull t net (Ok list) = (mask : ℕ) × IsTurnMask t (plain_netlist net) mask × TellsBelow t mask net (length t.cells) list
AreOverfull t net (Err (TooWide c)) = IsFirstWide t net c
AreOverfull t net (Err OutOfMemory) = Unit {0}
AreOverfull t net (Err _) = ⊥

-- ---- private: one cell, by the covers that were found

-- a cell that may be assigned has a cover in some form
abbrev pub HasSomeCover : Option CellCovers → Type 0
HasSomeCover None = Unit {0}
HasSomeCover (Some x) = x.tried.direct ≡ None → x.tried.inverted ≡ None → ⊥

-- the entry of a cell none of whose covers fits
pub record IsEntryOver (t : Table) (c : ℕ) (x : CellCovers) (over : Overfull) : Type 0 where
  pub tried : Tried
  pub is_over : IsOverBy t c x tried
  pub tells : TellsCell t c tried over

-- what is reported of a cell by its covers
abbrev pub IsToldBy : Table → ℕ → Option CellCovers → Option Overfull → Type 0
IsToldBy t c found None = OneFitsAt t c found
IsToldBy t c None (Some over) = ⊥
IsToldBy t c (Some x) (Some over) = IsEntryOver t c x over

-- the list gets that
pub record AddsTold (t : Table) (c : ℕ) (found : Option CellCovers) (before after : List Overfull) : Type 0 where
  pub told : Option Overfull
  pub is_told : IsToldBy t c found told
  pub after_is : after ≡ before ++ option_to_list told
