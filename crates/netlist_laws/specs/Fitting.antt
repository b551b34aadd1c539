-- The fuses of a netlist in a device, by rows: what a fitter owes (this project's rule).
use Rattle.std.specs.Prelude.{◌≡◌, ◌≢◌, ℕ, ◌*◌, ◌<◌, ◌≤◌, Bool, true, false, not, if◌then◌else◌, Option, None, Some, List, length, All}
use Rattle.netlist_laws.specs.Prelude.{is_on, Levels, Enable, Row, PinLow, Driven, Released, Always, AfterRegister, complement_if, pin_complements, data_complements, data_rows, says, is_inverted, is_switched_on, Table, cell_at, registered_at, IsDataRow, has, Formula, formula_value, allows, Wanted, PlainNetlist, wanted_at, function_at, as_named, shared_function, enable_of}
use Rattle.pld_device.specs.declared.fuse_bit.FuseBit.{FuseBit}
use Rattle.pld_device.specs.declared.kinds.Kinds.TheVariants.{Either}
use Rattle.pld_device.specs.ControlFuses.{control_fuses}
use Rattle.netlist_laws.specs.RowCovers.{IsValuedFor, is_used, IsPrimeCover, IsExactRow}

-- ---- cells

-- the OR of a cell's rows is the complement of its pin's level, or of its next Q
abbrev pub or_complements : Table → List Bool → ℕ → Wanted → Bool
or_complements t fuses c w =
    if w.registered
    then data_complements t.flip (is_inverted t fuses c)
    else pin_complements t.flip false (is_inverted t fuses c)

-- a value that the OR may have
abbrev pub or_may_be : Table → List Bool → ℕ → Wanted → Levels → Bool → Bool
or_may_be t fuses c w at v =
    allows (function_at at w.function) (as_named w (complement_if (or_complements t fuses c w) v))

-- the enable row has the formula's value; without such a row no fuse is asked for
abbrev pub IsFittedEnable : Table → PlainNetlist → List Bool → Formula → Enable → Type 0
IsFittedEnable t net fuses f (Row row) = IsExactRow t net fuses f row
IsFittedEnable t net fuses f (PinLow pin) = Unit {0}
IsFittedEnable t net fuses f Driven = Unit {0}
IsFittedEnable t net fuses f Released = Unit {0}

-- an assigned cell: it is a register as it is asked to be, and follows Q or its complement; its enable row has the
-- enable's value; and its data rows cover its function: if the OR can't be 0, and only if it may be 1
pub record IsFittedCell (t : Table) (net : PlainNetlist) (fuses : List Bool) (c : ℕ) (w : Wanted) : Type 0 where
  pub kind : (cell_at t c).kinds ≡ Either → says fuses (registered_at t c) ≡ w.registered
  pub polarity : w.registered ≡ true → t.flip ≡ AfterRegister → is_inverted t fuses c ≡ not w.buffer
  pub enable : IsFittedEnable t net fuses (enable_of w) (cell_at t c).enable
  pub rows : IsPrimeCover t net fuses (data_rows t c)
      (λ at. not (or_may_be t fuses c w at false)) (λ at. or_may_be t fuses c w at true)

-- a cell that is assigned nothing: combinational if it may be, inverted, and all its rows are 0
pub record IsSpareCell (t : Table) (fuses : List Bool) (c : ℕ) : Type 0 where
  pub kind : (cell_at t c).kinds ≡ Either → says fuses (registered_at t c) ≡ false
  pub polarity : t.flip ≢ Always → is_inverted t fuses c ≡ true
  pub enable : (row : ℕ) → (cell_at t c).enable ≡ Row row → is_used t fuses row ≡ false
  pub rows : (row : ℕ) → IsDataRow t c row → is_used t fuses row ≡ false

-- a cell that is assigned or not
abbrev pub IsFittedAs : Table → PlainNetlist → List Bool → ℕ → Option Wanted → Type 0
IsFittedAs t net fuses c None = IsSpareCell t fuses c
IsFittedAs t net fuses c (Some w) = IsFittedCell t net fuses c w

-- ---- the device

-- the reset or preset row that there may be has the shared function's value
abbrev pub IsFittedShared : Table → PlainNetlist → List Bool → Formula → Option ℕ → Type 0
IsFittedShared t net fuses f None = Unit {0}
IsFittedShared t net fuses f (Some row) = IsExactRow t net fuses f row

-- every cell's own function has the value of the shared one
abbrev pub AreShared : Table → PlainNetlist → (Wanted → Option Formula) → Type 0
AreShared t net own =
    (c : ℕ) (w : Wanted) (f : Formula) → wanted_at net c ≡ Some w → own w ≡ Some f
    → (at : Levels) → IsValuedFor t net at → formula_value at f ≡ formula_value at (shared_function own net)

-- the fuses of the netlist. Rows are switched on exactly if they aren't all 0, and every fuse past the array that
-- controls nothing is 0
pub record IsFitted (t : Table) (net : PlainNetlist) (fuses : List Bool) : Type 0 where
  pub size : length fuses ≡ t.fuses
  pub cells : (c : ℕ) → c < length t.cells → IsFittedAs t net fuses c (wanted_at net c)
  pub reset : IsFittedShared t net fuses (shared_function (λ (w : Wanted). w.reset) net) t.reset
  pub preset : IsFittedShared t net fuses (shared_function (λ (w : Wanted). w.preset) net) t.preset
  pub resets_shared : AreShared t net (λ (w : Wanted). w.reset)
  pub presets_shared : AreShared t net (λ (w : Wanted). w.preset)
  pub switches : (row : ℕ) → row < length t.row_switches → is_switched_on t fuses row ≡ is_used t fuses row
  pub fixed : All (λ (bit : FuseBit). is_on fuses bit.fuse ≡ bit.level) t.fixed
  pub others : (n : ℕ) → t.columns * t.rows ≤ n → has (control_fuses t) n ≡ false → is_on fuses n ≡ false
