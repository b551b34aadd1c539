-- When a device can take the netlist of a module: what holds if nothing is refused (this project's rule, over the
-- devices' datasheets).
use Rattle.std.specs.Prelude.{◌≡◌, ℕ, ◌<◌, Bool, true, false, Option, None, Some, IsSome, List, length, slice_get}
use Rattle.pld_device.specs.declared.carry.Carry.TheVariants as carry
use Rattle.netlist_laws.specs.Prelude.{Enable, Row, PinLow, Driven, Released, AfterRegister, IsPairOf, Table, cell_at, Leaf, Formula, Extension, ANode, Entry, is_stored, follows_q, is_free, Contribution, is_on_pin, cell_stores, control_of, Context, Design, name_at, formulas, is_raw_signal, given_formulas, HasNoSignalLoop, HasNoSignalPath, MayRegister}
use Rattle.bit_expr.specs.declared.node.Leaf.TheVariants as leaf
use Rattle.abel_tree.specs.declared.words.Extension.TheVariants as extension
use Rattle.netlist_laws.specs.Gathered.{cell_of}
use Rattle.netlist_laws.specs.SignalUses.{SignalUse, given_uses, uses_read}

-- ---- names

-- each register is on a cell: neither a node nor a pin without a cell is one
abbrev pub RegistersHaveCells : Context → Type 0
RegistersHaveCells d =
    (s : ℕ) (x : Entry) → slice_get d.names s ≡ Some x → is_stored x ≡ true → IsSome (cell_of d.device x)

-- no two names are one pin
abbrev pub PinsApart : Context → Type 0
PinsApart d =
    (pin i j : ℕ) → is_on_pin pin (name_at d i).kind ≡ true → is_on_pin pin (name_at d j).kind ≡ true → i ≡ j

-- there are no more nodes than a point has values
abbrev pub NodesAreFew : Context → Type 0
NodesAreFew d = (s n : ℕ) → (name_at d s).kind ≡ ANode n → n < 128

-- ---- what is read

-- a row enables
abbrev pub is_row : Enable → Bool
is_row (Row row) = true
is_row (PinLow pin) = false
is_row Driven = false
is_row Released = false

-- the cell that there may be is one that a row enables
abbrev pub is_enabled_by_row : Table → Option ℕ → Bool
is_enabled_by_row t None = false
is_enabled_by_row t (Some c) = is_row (cell_at t c).enable

-- the netlist has what is given to the signal with this extension: not so a clock, nor the enable of a cell that no
-- row enables, which only say what the device does anyway
abbrev pub is_kept : Context → (signal : ℕ) → Option Extension → Bool
is_kept d s None = true
is_kept d s (Some extension.D) = true
is_kept d s (Some extension.Ar) = true
is_kept d s (Some extension.Sp) = true
is_kept d s (Some extension.Oe) = is_enabled_by_row d.device (cell_of d.device (name_at d s))
is_kept d s (Some _) = false

-- some pair of columns carries the leaf: the level of a pin on which no register is, or the Q of a cell
abbrev pub HasColumns : Context → Leaf → Type 0
HasColumns d (leaf.Pin p) =
    ((pair : ℕ) × IsPairOf d.device p pair)
    × ((c : ℕ) → c < length d.device.cells → (cell_at d.device c).pin ≡ p → cell_stores d c ≡ false)
HasColumns d (leaf.Q c) = (pair : ℕ) × (slice_get d.device.pairs pair ≡ Some (carry.Cell c))
HasColumns d (leaf.Node n) = Unit {0}

-- the device has columns for all that the contribution reads
abbrev pub ReadsColumns : Context → Contribution (List SignalUse) → Type 0
ReadsColumns d c = (l : Leaf) → uses_read d c.holds l ≡ true → HasColumns d l

-- it has them for all that the netlist reads
abbrev pub ReadsHaveColumns : Design → Type 0
ReadsHaveColumns d =
    (k : ℕ) (c : Contribution (List SignalUse)) → slice_get (given_uses d) k ≡ Some c
    → is_kept d.context c.signal c.extension ≡ true → ReadsColumns d.context c

-- ---- what cells are asked to be

-- each assigned cell may have its signal's kind, and no register follows Q if the device can't complement after it
pub record IsAllowedOn (d : Context) (s c : ℕ) : Type 0 where
  pub kind : MayRegister (cell_at d.device c).kinds (is_stored (name_at d s))
  pub buffer : is_stored (name_at d s) ≡ true → follows_q (name_at d s) ≡ true → d.device.flip ≡ AfterRegister

-- an equation for this control is there only if the device has such a row
abbrev pub ControlIsThere : Design → Extension → (row : Option ℕ) → Type 0
ControlIsThere d e row =
    (s : ℕ) (f : Formula) → control_of (formulas d.context) (given_formulas d) s e ≡ Some f → IsSome row

-- no signal has an equation for this control
abbrev pub HasNoEquation : Design → Extension → Type 0
HasNoEquation d e = (s : ℕ) → control_of (formulas d.context) (given_formulas d) s e ≡ None

-- a free register has data that are its name's, the device complements after the register, and none is reset or preset
pub record MayChoose (d : Design) (s : ℕ) : Type 0 where
  pub named : is_raw_signal (given_formulas d) s ≡ false
  pub behind : d.context.device.flip ≡ AfterRegister
  pub no_reset : HasNoEquation d extension.Ar
  pub no_preset : HasNoEquation d extension.Sp

-- ---- all of it

-- a device can take the netlist of the design
pub record IsTakeable (d : Design) : Type 0 where
  pub registers : RegistersHaveCells d.context
  pub pins : PinsApart d.context
  pub nodes : NodesAreFew d.context
  pub cells : (s c : ℕ) → cell_of d.context.device (name_at d.context s) ≡ Some c → IsAllowedOn d.context s c
  pub free : (s : ℕ) → is_free (name_at d.context s) ≡ true → MayChoose d s
  pub resets : ControlIsThere d extension.Ar d.context.device.reset
  pub presets : ControlIsThere d extension.Sp d.context.device.preset
  pub reads : ReadsHaveColumns d
  pub no_loop : HasNoSignalLoop d
  pub no_path : (s : ℕ) → HasNoSignalPath d s
