-- Faults that are handed on: what they say of the whole.
use Rattle.std.proofs.Common.{◌≡◌, ℕ, ◌≤◌, true, List, length, slice_get, Option, Result, Err, sym, ap, ◌∙◌, subst, arith, inl, inr}
use Rattle.fitter.proofs.Common.{option_to_list, IsDevice, Table, Netlist, ExprId, plain_netlist, IsSoundNetlist, Cube, IsTurnMask, PlansControl, PlansRows, control_function, SharedControl, Preset, Reset, IsSharedBit, CellCovers, NoneWide, FitFault, SharedRows, FitAnswers, AreCovered, CoversBelow, ArePlanned, AreSharedRows, AreSingle, HasSharedRow, IsRowOf, IsSharedBitOf, SingleBelow, DifferIn}
use Rattle.fitter.specs.declared.fault.FitFault.TheVariants.{EnableTooWide, NotShared, OutOfMemory, PresetTooWide, ResetTooWide, TooManyProducts, TooWide}
use Rattle.fitter.proofs.Answering.{first_sum, shared_product, too_many}
use Rattle.fitter.proofs.Controls.{first_of_one}
use Rattle.fitter.proofs.CoversInTurn.{none_wide}

-- what holds of a fault holds of the answer that hands it on
pub handed : {X : Type 0} (P : Result X FitFault → Type 0) (result : Result X FitFault) (x : FitFault) → (e : FitFault) × (result ≡ Err e) × (e ≡ x) → P (Err x) → P result
handed P result x is holds = subst P (sym (is.1 ∙ ap (λ (e : FitFault). Err e) is.2)) holds

-- ---- the shared controls

pub reset_stops : (t : Table) (mask : ℕ) (net : Netlist) (x : FitFault) → IsSharedBitOf t net Reset (Err x) → AreSharedRows t mask net (Err x)
reset_stops t mask net (TooWide c) is = absurd is
reset_stops t mask net (NotShared which a b point) is = subst (λ (w : SharedControl). DifferIn t net w a b point) (sym is.0) is.1
reset_stops t mask net ResetTooWide is = absurd is
reset_stops t mask net PresetTooWide is = absurd is
reset_stops t mask net (EnableTooWide c) is = absurd is
reset_stops t mask net (TooManyProducts c tried) is = absurd is
reset_stops t mask net OutOfMemory is = tt

pub preset_stops : (t : Table) (mask : ℕ) (net : Netlist) (reset : ExprId) (x : FitFault) → IsSharedBit t net Reset reset → IsSharedBitOf t net Preset (Err x) → AreSharedRows t mask net (Err x)
preset_stops t mask net reset (TooWide c) shared is = absurd is
preset_stops t mask net reset (NotShared which a b point) shared is = subst (λ (w : SharedControl). DifferIn t net w a b point) (sym is.0) (shared.shared, is.1)
preset_stops t mask net reset ResetTooWide shared is = absurd is
preset_stops t mask net reset PresetTooWide shared is = absurd is
preset_stops t mask net reset (EnableTooWide c) shared is = absurd is
preset_stops t mask net reset (TooManyProducts c tried) shared is = absurd is
preset_stops t mask net reset OutOfMemory shared is = tt

pub reset_row_stops : (t : Table) (mask : ℕ) (net : Netlist) (reset preset : ExprId) (x : FitFault) → IsSharedBit t net Reset reset → IsSharedBit t net Preset preset
    → IsRowOf t mask net reset Reset (Err x) → AreSharedRows t mask net (Err x)
reset_row_stops t mask net reset preset x shared other (inl many) =
    subst (λ (e : FitFault). AreSharedRows t mask net (Err e)) (sym many.0) (other.shared, record { bit = reset; shared = shared; many = many.1 })
reset_row_stops t mask net reset preset x shared other (inr none) = subst (λ (e : FitFault). AreSharedRows t mask net (Err e)) (sym none) tt

pub preset_row_stops : (t : Table) (mask : ℕ) (net : Netlist) (reset preset : ExprId) (row : Option Cube) (x : FitFault) → IsSharedBit t net Reset reset → IsSharedBit t net Preset preset
    → PlansControl (length t.pairs) mask net reset row → IsRowOf t mask net preset Preset (Err x) → AreSharedRows t mask net (Err x)
preset_row_stops t mask net reset preset row x shared other cover (inl many) =
    subst (λ (e : FitFault). AreSharedRows t mask net (Err e)) (sym many.0)
    ((row, record { bit = reset; shared = shared; covers_it = cover }), record { bit = preset; shared = other; many = many.1 })
preset_row_stops t mask net reset preset row x shared other cover (inr none) = subst (λ (e : FitFault). AreSharedRows t mask net (Err e)) (sym none) tt

-- a row of its own is one, by its first
pub row_is : (vars mask : ℕ) (net : Netlist) (bit : ExprId) (rows : List Cube) (o : Option Cube) → length rows ≤ 1 → o ≡ slice_get rows 0
    → PlansRows vars mask net (control_function bit) true rows → PlansControl vars mask net bit o
row_is vars mask net bit rows o one is cover =
    subst (PlansRows vars mask net (control_function bit) true) (first_of_one rows one ∙ ap option_to_list (sym is)) cover

-- ---- the whole

pub cover_stops : (t : Table) (mask : ℕ) (net : Netlist) (x : FitFault) → AreCovered t mask net (Err x) → FitAnswers t net (Err x)
cover_stops t mask net (TooWide c) is = is
cover_stops t mask net (NotShared which a b point) is = absurd is
cover_stops t mask net ResetTooWide is = absurd is
cover_stops t mask net PresetTooWide is = absurd is
cover_stops t mask net (EnableTooWide c) is = absurd is
cover_stops t mask net (TooManyProducts c tried) is = absurd is
cover_stops t mask net OutOfMemory is = tt

module _ (t : Table) (laws : IsDevice t) (net : Netlist) (sound : IsSoundNetlist t net) (mask : ℕ) (mask_is : IsTurnMask t (plain_netlist net) mask) (covers : List (Option CellCovers))
    (below : CoversBelow t mask net (length t.cells) covers) where
  wide : NoneWide t net
  wide = none_wide t mask net sound covers below

  pub shared_stops : (x : FitFault) → AreSharedRows t mask net (Err x) → FitAnswers t net (Err x)
  shared_stops (TooWide c) is = absurd is
  shared_stops (NotShared which a b point) is = (wide, is)
  shared_stops ResetTooWide is = (wide, is.0, is.1)
  shared_stops PresetTooWide is = (wide, shared_product t laws net sound mask mask_is Reset is.0.0 is.0.1, is.1)
  shared_stops (EnableTooWide c) is = absurd is
  shared_stops (TooManyProducts c tried) is = absurd is
  shared_stops OutOfMemory is = tt

  module _ (shared : SharedRows) (reset : HasSharedRow t mask net Reset shared.reset) (preset : HasSharedRow t mask net Preset shared.preset) where
    pub enable_stops : (x : FitFault) → AreSingle covers (Err x) → FitAnswers t net (Err x)
    enable_stops (TooWide c) is = absurd is
    enable_stops (NotShared which a b point) is = absurd is
    enable_stops ResetTooWide is = absurd is
    enable_stops PresetTooWide is = absurd is
    enable_stops (EnableTooWide c) is = (
      wide,
      shared_product t laws net sound mask mask_is Reset shared.reset reset,
      shared_product t laws net sound mask mask_is Preset shared.preset preset,
      first_sum t laws net sound mask mask_is covers c below (omega (arith, is.0, below.count)) is.1 is.2,
    )
    enable_stops (TooManyProducts c tried) is = absurd is
    enable_stops OutOfMemory is = absurd is

    pub plan_stops : (x : FitFault) → SingleBelow covers (length covers) → ArePlanned t covers (Err x) → FitAnswers t net (Err x)
    plan_stops (TooWide c) single is = absurd is
    plan_stops (NotShared which a b point) single is = absurd is
    plan_stops ResetTooWide single is = absurd is
    plan_stops PresetTooWide single is = absurd is
    plan_stops (EnableTooWide c) single is = absurd is
    plan_stops (TooManyProducts c tried) single is =
        too_many t laws net sound mask mask_is covers shared below reset preset (subst (SingleBelow covers) below.count single) c tried is.0 is.1 is.2
    plan_stops OutOfMemory single is = tt
