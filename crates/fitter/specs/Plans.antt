-- What a plan of a device's rows owes a netlist: the covers of its functions, in forms that its cells may have (this
-- project's rule).
use Rattle.std.specs.Prelude.{◌≡◌, ℕ, ◌<◌, ◌≤◌, ◌^◌, ◌==◌, Bool, true, false, not, ◌&&◌, Option, None, Some, List, [], find, get_or, length, slice_get}
use Rattle.fitter.specs.Prelude.{bit_at, option_to_list, Levels, Carry, IsDevice, pair_values, Table, cell_at, CellWanted, Control, Function, Netlist, ExprId, arena, formula_at, Formula, PlainNetlist, Wanted, plain_netlist, shared_function, netlist_stores, IsSoundNetlist, netlist_exchanged, netlist_shown, Cube, covers, allowed_of, needed_of, control_function, may_be_inverted_as, rows_are_positive, CellForm, CellPlan, Plan, IsBurned, form_at, IsValuedFor, AreShared, IsFitted}
use Rattle.pld_device.specs.declared.carry.Carry.TheVariants as carry
use Rattle.fit_plans.specs.Covering.{IsCoverBetween}

-- ---- what the columns carry

-- a pair carries the complement of what its leaf has, as that of a register does
abbrev pub carries_complement : Table → PlainNetlist → Carry → Bool
carries_complement t net (carry.Pin p) = false
carries_complement t net (carry.Cell c) = netlist_stores t net c

-- so it does of what its leaf represents, except if the register stores the complement of that
abbrev pub carries_chosen : Table → PlainNetlist → (chosen : ℕ → Bool) → Carry → Bool
carries_chosen t net chosen (carry.Pin p) = false
carries_chosen t net chosen (carry.Cell c) = netlist_stores t net c && not (chosen c)

-- bit v of the mask says so of pair v
pub record IsTurnMask (t : Table) (net : PlainNetlist) (mask : ℕ) : Type 0 where
  pub low : mask < 2 ^ 32
  pub bits : (v : ℕ) → v < length t.pairs → (bit_at mask v == 1) ≡ carries_complement t net (get_or t.pairs v (carry.Pin 0))

-- bit v of the mask says so of pair v, if these registers store the complement
pub record IsChosenMask (t : Table) (net : PlainNetlist) (chosen : ℕ → Bool) (mask : ℕ) : Type 0 where
  pub low : mask < 2 ^ 32
  pub bits : (v : ℕ) → v < length t.pairs → (bit_at mask v == 1) ≡ carries_chosen t net chosen (get_or t.pairs v (carry.Pin 0))

-- wherever the nodes are valued, the function is the OR of the cubes at what the pairs carry
abbrev pub IsFunctionOf : Table → PlainNetlist → (fuses : List Bool) → List Cube → (Levels → Bool) → Type 0
IsFunctionOf t net fuses cubes f = (at : Levels) → IsValuedFor t net at → f at ≡ covers cubes (pair_values t fuses at)

-- ---- plans

-- rows that cover a function, having what its `one` has or the complement
abbrev pub PlansRows : (vars mask : ℕ) → Netlist → Function → (positive : Bool) → List Cube → Type 0
PlansRows vars mask net f positive rows = IsCoverBetween vars mask (needed_of net f positive) (allowed_of net f positive) rows

-- one row, or none, that covers a control
abbrev pub PlansControl : (vars mask : ℕ) → Netlist → ExprId → Option Cube → Type 0
PlansControl vars mask net bit row = PlansRows vars mask net (control_function bit) true (option_to_list row)

-- the bit of a control that may be there
abbrev pub bit_or : ExprId → Option Control → ExprId
bit_or none None = none
bit_or none (Some control) = control.bit

-- an enable that isn't there is always 1
abbrev pub enable_bit : CellWanted → ExprId
enable_bit w = bit_or (record { 0 = 1 }) w.enable

-- what is asked of a cell; none if it is assigned nothing
abbrev pub cell_wanted : Netlist → ℕ → Option CellWanted
cell_wanted net c = find (λ (w : CellWanted). w.cell == c) net.cells

-- a cell that may be assigned leaves its polarity free
abbrev pub is_free_cell : Option CellWanted → Bool
is_free_cell None = false
is_free_cell (Some w) = w.free

-- the free cells that are inverted: they store the complement
abbrev pub is_chosen : Netlist → List CellForm → ℕ → Bool
is_chosen net forms c = is_free_cell (cell_wanted net c) && (form_at forms c).inverted

-- the plan of an assigned cell: it has a form that it may have, and in this its rows fit its room and cover its function
pub record PlansCell (t : Table) (mask : ℕ) (net : Netlist) (c : ℕ) (w : CellWanted) (x : CellPlan) (form : CellForm) : Type 0 where
  pub registered : form.registered ≡ w.registered
  pub may : may_be_inverted_as t.flip w form.inverted ≡ true
  pub enable : PlansControl (length t.pairs) mask net (enable_bit w) x.enable
  pub rows : PlansRows (length t.pairs) mask net w.function (rows_are_positive t.flip w form.inverted) x.rows
  pub fit : length x.rows ≤ (cell_at t c).room

-- that of a cell which is assigned nothing: combinational if it may be, inverted, and no row
pub record PlansSpare (x : CellPlan) (form : CellForm) : Type 0 where
  pub registered : form.registered ≡ false
  pub inverted : form.inverted ≡ true
  pub enable : x.enable ≡ None
  pub rows : x.rows ≡ []

abbrev pub PlansAs : Table → (mask : ℕ) → Netlist → ℕ → Option CellWanted → CellPlan → CellForm → Type 0
PlansAs t mask net c None x form = PlansSpare x form
PlansAs t mask net c (Some w) x form = PlansCell t mask net c w x form

-- that of the cell of a number
pub record HasCellPlan (t : Table) (mask : ℕ) (net : Netlist) (plan : Plan) (forms : List CellForm) (c : ℕ) : Type 0 where
  pub cell : CellPlan
  pub there : slice_get plan.cells c ≡ Some cell
  pub planned : PlansAs t mask net c (cell_wanted net c) cell (form_at forms c)

-- the row of a control that all registers share
pub record PlansShared (t : Table) (mask : ℕ) (net : Netlist) (own : Wanted → Option Formula) (row : Option Cube) : Type 0 where
  pub bit : ExprId
  pub within : bit.0 < length (arena net.exprs)
  pub shared : formula_at (arena net.exprs) bit ≡ shared_function own (plain_netlist net)
  pub covers_it : PlansControl (length t.pairs) mask net bit row

-- a plan for the whole netlist; its rows ask for what the columns carry in these forms
pub record PlansNetlist (t : Table) (mask : ℕ) (net : Netlist) (plan : Plan) (forms : List CellForm) : Type 0 where
  pub mask_is : IsChosenMask t (plain_netlist net) (is_chosen net forms) mask
  pub count : length plan.cells ≡ length t.cells
  pub cells : (c : ℕ) → c < length t.cells → HasCellPlan t mask net plan forms c
  pub reset : PlansShared t mask net (λ (w : Wanted). w.reset) plan.reset
  pub preset : PlansShared t mask net (λ (w : Wanted). w.preset) plan.preset
  pub resets_shared : AreShared t (netlist_exchanged (is_chosen net forms) (plain_netlist net)) (λ (w : Wanted). w.reset)
  pub presets_shared : AreShared t (netlist_exchanged (is_chosen net forms) (plain_netlist net)) (λ (w : Wanted). w.preset)

-- fuses that hold such a plan are those of the netlist under the choice that they show
abbrev pub PlansFit : Type 0
PlansFit =
    (t : Table) (net : Netlist) (mask : ℕ) (plan : Plan) (forms : List CellForm) (fuses : List Bool) → IsDevice t → IsSoundNetlist t net
    → PlansNetlist t mask net plan forms → IsBurned t plan forms fuses → IsFitted t (netlist_shown t fuses (plain_netlist net)) fuses
