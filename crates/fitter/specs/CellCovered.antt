-- The covers of a netlist's cell and controls, and cells that are too wide (this project's rule).
use Rattle.std.specs.Prelude.{◌≡◌, ℕ, ◌<◌, true, Option, Some, None, length, Result, Ok, Err}
use Rattle.fitter.specs.Prelude.{Vec, Table, cell_at, is_before, CellWanted, Control, Netlist, ExprId, Cube, bit_list, IsTriedCell, control_function}
use Rattle.sop_lowering.specs.declared.fault.LowerFault.{LowerFault}
use Rattle.sop_lowering.specs.declared.fault.LowerFault.TheVariants as lower
use Rattle.fitter.specs.Coverable.{IsSoundId}
use Rattle.fitter.specs.Plans.{PlansRows, cell_wanted, enable_bit}
use Rattle.fitter.specs.declared.cell_covering.CellCovers.{CellCovers}
use Rattle.fitter.specs.Width.{IsControlTooWide, IsFunctionTooWide, IsTooWide, width_order}

-- the cell is the device's, and all its ids are sound
pub record CanCoverCell (t : Table) (net : Netlist) (w : CellWanted) : Type 0 where
  pub low : w.cell < length t.cells
  pub one : IsSoundId t net w.function.one
  pub any : IsSoundId t net w.function.any
  pub enable : IsSoundId t net (enable_bit w)
  pub reset : (control : Control) → w.reset ≡ Some control → IsSoundId t net control.bit
  pub preset : (control : Control) → w.preset ≡ Some control → IsSoundId t net control.bit

-- rows that cover a control; TooWide if it has no written list
abbrev pub HasRows : Table → (mask : ℕ) → Netlist → ExprId → Result (Vec Cube) LowerFault → Type 0
HasRows t mask net bit (Ok rows) = PlansRows (length t.pairs) mask net (control_function bit) true rows.items
HasRows t mask net bit (Err lower.TooWide) = bit_list net bit true ≡ None
HasRows t mask net bit (Err lower.OutOfMemory) = Unit {0}

-- an equation that there may be has a written list; TooWide if it has none
abbrev pub IsListed : Netlist → Option Control → Result (Unit {0}) LowerFault → Type 0
IsListed net control (Ok done) = IsControlTooWide net control → ⊥
IsListed net control (Err lower.TooWide) = IsControlTooWide net control
IsListed net control (Err lower.OutOfMemory) = Unit {0}

-- the covers of a cell
pub record HasCovers (t : Table) (mask : ℕ) (net : Netlist) (w : CellWanted) (x : CellCovers) : Type 0 where
  pub wanted : x.wanted ≡ w
  pub tried : IsTriedCell t.flip (cell_at t w.cell).room (length t.pairs) mask net w x.tried
  pub some : x.tried.direct ≡ None → x.tried.inverted ≡ None → ⊥
  pub enable : PlansRows (length t.pairs) mask net (control_function (enable_bit w)) true x.enable.items
  pub reset : IsControlTooWide net w.reset → ⊥
  pub preset : IsControlTooWide net w.preset → ⊥

-- the cell is not too wide, and has the cover of its enable
pub record HasChecked (t : Table) (mask : ℕ) (net : Netlist) (w : CellWanted) (x : CellCovers) : Type 0 where
  pub wanted : x.wanted ≡ w
  pub form : IsFunctionTooWide t net w → ⊥
  pub enable : PlansRows (length t.pairs) mask net (control_function (enable_bit w)) true x.enable.items
  pub reset : IsControlTooWide net w.reset → ⊥
  pub preset : IsControlTooWide net w.preset → ⊥

-- so is one assigned cell; TooWide if a list of it would be too long
abbrev pub IsChecked : Table → (mask : ℕ) → Netlist → CellWanted → Result CellCovers LowerFault → Type 0
IsChecked t mask net w (Ok x) = HasChecked t mask net w x
IsChecked t mask net w (Err lower.TooWide) = IsTooWide t net w
IsChecked t mask net w (Err lower.OutOfMemory) = Unit {0}

-- so is a cell that may be assigned
abbrev pub HasCheckedAs : Table → (mask : ℕ) → Netlist → Option CellWanted → Option CellCovers → Type 0
HasCheckedAs t mask net None None = Unit {0}
HasCheckedAs t mask net None (Some x) = ⊥
HasCheckedAs t mask net (Some w) None = ⊥
HasCheckedAs t mask net (Some w) (Some x) = HasChecked t mask net w x

-- the covers of one assigned cell; TooWide if a list of it would be too long
abbrev pub IsCovered : Table → (mask : ℕ) → Netlist → CellWanted → Result CellCovers LowerFault → Type 0
IsCovered t mask net w (Ok x) = HasCovers t mask net w x
IsCovered t mask net w (Err lower.TooWide) = IsTooWide t net w
IsCovered t mask net w (Err lower.OutOfMemory) = Unit {0}

-- the covers of a cell that may be assigned
abbrev pub HasCoversAs : Table → (mask : ℕ) → Netlist → Option CellWanted → Option CellCovers → Type 0
HasCoversAs t mask net None None = Unit {0}
HasCoversAs t mask net None (Some x) = ⊥
HasCoversAs t mask net (Some w) None = ⊥
HasCoversAs t mask net (Some w) (Some x) = HasCovers t mask net w x

-- a cell that is assigned and too wide
pub record IsWideAt (t : Table) (net : Netlist) (c : ℕ) : Type 0 where
  pub cell : CellWanted
  pub wanted : cell_wanted net c ≡ Some cell
  pub wide : IsTooWide t net cell

-- those of the cell of a number, which may be assigned
abbrev pub IsCoveredAt : Table → (mask : ℕ) → Netlist → ℕ → Result (Option CellCovers) LowerFault → Type 0
IsCoveredAt t mask net c (Ok found) = HasCoversAs t mask net (cell_wanted net c) found
IsCoveredAt t mask net c (Err lower.TooWide) = IsWideAt t net c
IsCoveredAt t mask net c (Err lower.OutOfMemory) = Unit {0}

-- so is the cell of a number
abbrev pub IsCheckedAt : Table → (mask : ℕ) → Netlist → ℕ → Result (Option CellCovers) LowerFault → Type 0
IsCheckedAt t mask net c (Ok found) = HasCheckedAs t mask net (cell_wanted net c) found
IsCheckedAt t mask net c (Err lower.TooWide) = IsWideAt t net c
IsCheckedAt t mask net c (Err lower.OutOfMemory) = Unit {0}

-- the first by number
pub record IsFirstNumber (t : Table) (net : Netlist) (c : ℕ) : Type 0 where
  pub at : IsWideAt t net c
  pub below : (d : ℕ) (w : CellWanted) → d < c → cell_wanted net d ≡ Some w → IsTooWide t net w → ⊥

-- a cell that is too wide, before all others below a number that are
pub record IsFirstBelow (t : Table) (net : Netlist) (n : ℕ) (w : CellWanted) : Type 0 where
  pub wanted : cell_wanted net w.cell ≡ Some w
  pub wide : IsTooWide t net w
  pub before : (d : ℕ) (v : CellWanted) → d < n → cell_wanted net d ≡ Some v → is_before width_order v w ≡ true → IsTooWide t net v → ⊥
