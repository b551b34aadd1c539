-- Private: the rows and forms of cells, as they are chosen from their covers (this project's rule).
use Rattle.std.specs.Prelude.{◌≡◌, ◌⊎◌, ℕ, ◌<◌, ◌≤◌, true, false, Option, Some, None, List, [], length, get_or, slice_get, All, AllPairs, Result, Ok, Err}
use Rattle.fitter.specs.Prelude.{Vec, pin_complements, Table, cell_at, CellWanted, Netlist, ExprId, Cube, Tried, FitsRoom, CellForm, CellPlan, form_at, AreShared, plain_netlist}
use Rattle.fitter.specs.Plans.{PlansControl, cell_wanted}
use Rattle.fitter.specs.declared.shared.SharedControl.{SharedControl}
use Rattle.fitter.specs.declared.shared.SharedControl.TheVariants.{Preset, Reset}
use Rattle.fitter.specs.Sharing.{AreNotShared, IsSharedBit, own_formula}
use Rattle.fitter.specs.declared.cell_covering.CellCovers.{CellCovers}
use Rattle.fitter.specs.declared.fault.FitFault.{FitFault}
use Rattle.fitter.specs.declared.fault.FitFault.TheVariants as fault
use Rattle.fitter.specs.declared.answer.FittedCell.{FittedCell}
use Rattle.fitter.specs.declared.planning.AllRows.{AllRows}
use Rattle.fitter.specs.declared.planning.CellRows.{CellRows}
use Rattle.fitter.specs.declared.shared_rows.SharedRows.{SharedRows}
use Rattle.fitter.specs.Products.{DifferIn, IsNoProduct, IsSharedSum}

-- ---- one cell

-- the rows of one form, which fit the room
pub record AreChosen (t : Table) (c : ℕ) (x : CellCovers) (rows : CellRows) : Type 0 where
  pub enable : rows.plan.enable ≡ slice_get x.enable.items 0
  pub registered : rows.form.registered ≡ x.wanted.registered
  pub list : Vec Cube
  pub direct : rows.form.inverted ≡ false → x.tried.direct ≡ Some list
  pub inverted : rows.form.inverted ≡ true → x.tried.inverted ≡ Some list
  pub over : rows.form.inverted ≡ true → FitsRoom (cell_at t c).room x.tried.direct → ⊥
  pub fit : length list.items ≤ (cell_at t c).room
  pub rows_are : rows.plan.rows ≡ list.items

-- no form fits
pub record IsOver (t : Table) (c : ℕ) (x : CellCovers) (tried : Tried) : Type 0 where
  pub direct_is : tried.direct ≡ x.tried.direct
  pub inverted_is : tried.inverted ≡ x.tried.inverted
  pub direct : FitsRoom (cell_at t c).room x.tried.direct → ⊥
  pub inverted : FitsRoom (cell_at t c).room x.tried.inverted → ⊥

-- the rows of a cell that is assigned nothing
pub record AreNoRows (rows : CellRows) : Type 0 where
  pub enable : rows.plan.enable ≡ None
  pub rows_none : rows.plan.rows ≡ []
  pub inverted : rows.form.inverted ≡ true
  pub registered : rows.form.registered ≡ false

-- those of a cell that may be assigned
abbrev pub AreRowsOf : Table → ℕ → Option CellCovers → CellRows → Type 0
AreRowsOf t c None rows = AreNoRows rows
AreRowsOf t c (Some x) rows = AreChosen t c x rows

-- a cell that is assigned, no form of which fits, with the covers that were tried
abbrev pub IsOverAt : Table → ℕ → Option CellCovers → Tried → Type 0
IsOverAt t c None tried = ⊥
IsOverAt t c (Some x) tried = IsOver t c x tried

-- the rows of one cell; TooManyProducts with its number if no form fits
abbrev pub ArePlannedAt : Table → ℕ → Option CellCovers → Result CellRows FitFault → Type 0
ArePlannedAt t c found (Ok rows) = AreRowsOf t c found rows
ArePlannedAt t c found (Err (fault.TooManyProducts d tried)) = (d ≡ c) × IsOverAt t c found tried
ArePlannedAt t c found (Err fault.OutOfMemory) = Unit {0}
ArePlannedAt t c found (Err _) = ⊥

-- ---- all cells

-- the rows and the form of a cell
pub record HasRowsAt (t : Table) (covers : List (Option CellCovers)) (plans : List CellPlan) (forms : List CellForm) (c : ℕ) : Type 0 where
  pub plan : CellPlan
  pub there : slice_get plans c ≡ Some plan
  pub rows : AreRowsOf t c (get_or covers c None) (record { plan = plan; form = form_at forms c })

-- the rows and forms of the cells below a number
pub record RowsBelow (t : Table) (covers : List (Option CellCovers)) (c : ℕ) (plans : List CellPlan) (forms : List CellForm) : Type 0 where
  pub plans_count : length plans ≡ c
  pub forms_count : length forms ≡ c
  pub each : (d : ℕ) → d < c → HasRowsAt t covers plans forms d

-- of the covers that were found of a cell that may be assigned one fits its room
abbrev pub OneFitsAt : Table → ℕ → Option CellCovers → Type 0
OneFitsAt t c None = Unit {0}
OneFitsAt t c (Some x) = FitsRoom (cell_at t c).room x.tried.direct ⊎ FitsRoom (cell_at t c).room x.tried.inverted

-- so it is of the cells below a number
abbrev pub EachFitsBelow : Table → List (Option CellCovers) → ℕ → Type 0
EachFitsBelow t covers c = (d : ℕ) → d < c → OneFitsAt t d (get_or covers d None)

-- the rows of all cells; TooManyProducts with the number of the first that no form fits
abbrev pub ArePlanned : Table → List (Option CellCovers) → Result AllRows FitFault → Type 0
ArePlanned t covers (Ok all) = RowsBelow t covers (length t.cells) all.plans.items all.forms.items
ArePlanned t covers (Err (fault.TooManyProducts c tried)) =
    (c < length t.cells) × IsOverAt t c (get_or covers c None) tried × EachFitsBelow t covers c
ArePlanned t covers (Err fault.OutOfMemory) = Unit {0}
ArePlanned t covers (Err _) = ⊥

-- ---- enables

-- an enable that there may be has at most one row
abbrev pub IsSingleRow : Option CellCovers → Type 0
IsSingleRow None = Unit {0}
IsSingleRow (Some x) = length x.enable.items ≤ 1

-- it has more
abbrev pub IsManyRows : Option CellCovers → Type 0
IsManyRows None = ⊥
IsManyRows (Some x) = 1 < length x.enable.items

-- the enables of the cells below a number have at most one row each
abbrev pub SingleBelow : List (Option CellCovers) → ℕ → Type 0
SingleBelow covers c = (d : ℕ) → d < c → IsSingleRow (get_or covers d None)

-- those of all cells; EnableTooWide with the number of the first that has more
abbrev pub AreSingle : List (Option CellCovers) → Result (Unit {0}) FitFault → Type 0
AreSingle covers (Ok done) = SingleBelow covers (length covers)
AreSingle covers (Err (fault.EnableTooWide c)) = (c < length covers) × IsManyRows (get_or covers c None) × SingleBelow covers c
AreSingle covers (Err _) = ⊥

-- ---- the shared controls

-- the row of a reset, or a preset, that all registers share
pub record HasSharedRow (t : Table) (mask : ℕ) (net : Netlist) (which : SharedControl) (row : Option Cube) : Type 0 where
  pub bit : ExprId
  pub shared : IsSharedBit t net which bit
  pub covers_it : PlansControl (length t.pairs) mask net bit row

-- what is refused where such a control is no product
abbrev pub no_product : SharedControl → FitFault
no_product Reset = fault.ResetTooWide
no_product Preset = fault.PresetTooWide

-- a row, or that the bit is no product
abbrev pub IsRowOf : Table → (mask : ℕ) → Netlist → ExprId → SharedControl → Result (Option Cube) FitFault → Type 0
IsRowOf t mask net bit which (Ok row) = PlansControl (length t.pairs) mask net bit row
IsRowOf t mask net bit which (Err e) = ((e ≡ no_product which) × IsNoProduct (length t.pairs) net bit) ⊎ (e ≡ fault.OutOfMemory)

-- the bit that all registers share, or two cells that don't
abbrev pub IsSharedBitOf : Table → Netlist → SharedControl → Result ExprId FitFault → Type 0
IsSharedBitOf t net which (Ok bit) = IsSharedBit t net which bit
IsSharedBitOf t net which (Err (fault.NotShared told a b point)) = (told ≡ which) × AreNotShared t (plain_netlist net) (own_formula which) a b point
IsSharedBitOf t net which (Err fault.OutOfMemory) = Unit {0}
IsSharedBitOf t net which (Err _) = ⊥

-- the rows of reset and preset; NotShared with two registers that differ, else the one that is no product
abbrev pub AreSharedRows : Table → (mask : ℕ) → Netlist → Result SharedRows FitFault → Type 0
AreSharedRows t mask net (Ok rows) = HasSharedRow t mask net Reset rows.reset × HasSharedRow t mask net Preset rows.preset
AreSharedRows t mask net (Err (fault.NotShared which a b point)) = DifferIn t net which a b point
AreSharedRows t mask net (Err fault.ResetTooWide) = AreShared t (plain_netlist net) (own_formula Preset) × IsSharedSum t net Reset
AreSharedRows t mask net (Err fault.PresetTooWide) = ((row : Option Cube) × HasSharedRow t mask net Reset row) × IsSharedSum t net Preset
AreSharedRows t mask net (Err fault.OutOfMemory) = Unit {0}
AreSharedRows t mask net (Err _) = ⊥

-- ---- the entries of an answer

-- an entry of an assigned cell, by its plan and its form
pub record IsEntryOf (t : Table) (net : Netlist) (plans : List CellPlan) (forms : List CellForm) (x : FittedCell) : Type 0 where
  pub cell : CellWanted
  pub wanted : cell_wanted net x.cell ≡ Some cell
  pub inverted : x.inverted ≡ pin_complements t.flip cell.registered (form_at forms x.cell).inverted
  pub plan : CellPlan
  pub there : slice_get plans x.cell ≡ Some plan
  pub rows : x.rows ≡ plan.rows

-- those of the cells below a number
pub record EntriesBelow (t : Table) (net : Netlist) (plans : List CellPlan) (forms : List CellForm) (c : ℕ) (list : List FittedCell) : Type 0 where
  pub entries : All (IsEntryOf t net plans forms) list
  pub low : All (λ (x : FittedCell). x.cell < c) list
  pub order : AllPairs (λ (a b : FittedCell). a.cell < b.cell) list
  pub each : (d : ℕ) (w : CellWanted) → d < c → cell_wanted net d ≡ Some w → (k : ℕ) × (x : FittedCell) × (slice_get list k ≡ Some x) × (x.cell ≡ d)
