-- Netlists that a device can take (this project's rule).
use Rattle.std.specs.Prelude.{◌≡◌, ◌≢◌, ℕ, ◌<◌, ◌≤◌, Bool, true, false, Option, None, Some, IsSome, length, All, AllPairs, slice_get}
use Rattle.pld_device.specs.declared.carry.Carry.TheVariants as carry
use Rattle.abel_meaning.specs.Prelude.{PinLow, AfterRegister, Kinds, Combinational, Registered, Either, IsPairOf, Table, cell_at, Leaf, Formula, names}
use Rattle.bit_expr.specs.declared.node.Leaf.TheVariants as leaf
use Rattle.abel_meaning.specs.Functions.{Function}
use Rattle.abel_meaning.specs.Netlists.{Wanted, PlainNetlist, wanted_at}
use Rattle.abel_meaning.specs.NetlistLogic.{netlist_stores}
use Rattle.abel_meaning.specs.NetlistReads.{HasNoNetlistLoop, HasNoNetlistPath}

-- ---- what a formula may read

-- a leaf that the device can read: a pin that is no register's, the Q of an assigned register, or a node of the list
abbrev pub IsReadable : Table → PlainNetlist → Leaf → Type 0
IsReadable t net (leaf.Pin pin) =
    ((pair : ℕ) × IsPairOf t pin pair)
    × ((c : ℕ) → c < length t.cells → (cell_at t c).pin ≡ pin → netlist_stores t net c ≡ false)
IsReadable t net (leaf.Q c) =
    ((pair : ℕ) × (slice_get t.pairs pair ≡ Some (carry.Cell c)))
    × ((c < length t.cells) × (w : Wanted) × (wanted_at net c ≡ Some w) × (w.registered ≡ true))
IsReadable t net (leaf.Node n) = n < length net.nodes

-- every leaf that the formula names is one
abbrev pub IsSoundFormula : Table → PlainNetlist → Formula → Type 0
IsSoundFormula t net f = (l : Leaf) → names f l ≡ true → IsReadable t net l

-- so is every leaf of a function
pub record IsSoundFunction (t : Table) (net : PlainNetlist) (f : Function Formula) : Type 0 where
  pub one : IsSoundFormula t net f.one
  pub any : IsSoundFormula t net f.any

-- ---- cells and nodes

-- a reset or preset that may be there: of a register, if the device has one
pub record IsSoundShared (t : Table) (net : PlainNetlist) (w : Wanted) (device : Option ℕ) (f : Formula) : Type 0 where
  pub register : w.registered ≡ true
  pub has_one : IsSome device
  pub formula : IsSoundFormula t net f

-- a cell of these kinds may be a register, or may be none
abbrev pub MayRegister : Kinds → Bool → Type 0
MayRegister Combinational registered = registered ≡ false
MayRegister Registered registered = registered ≡ true
MayRegister Either registered = Unit {0}

-- an assigned cell: one of the device, of a kind that it may have; its pin follows Q only if the device complements after
-- the register, it has no enable of its own if a pin enables it, and it reads what can be read
pub record IsSoundCell (t : Table) (net : PlainNetlist) (w : Wanted) : Type 0 where
  pub within : w.cell < length t.cells
  pub kind : MayRegister (cell_at t w.cell).kinds w.registered
  pub buffer : w.registered ≡ true → w.buffer ≡ true → t.flip ≡ AfterRegister
  pub by_pin : (pin : ℕ) → (cell_at t w.cell).enable ≡ PinLow pin → w.enable ≡ None
  pub function : IsSoundFunction t net w.function
  pub enable : (f : Formula) → w.enable ≡ Some f → IsSoundFormula t net f
  pub reset : (f : Formula) → w.reset ≡ Some f → IsSoundShared t net w t.reset f
  pub preset : (f : Formula) → w.preset ≡ Some f → IsSoundShared t net w t.preset f

-- no cell has a reset or a preset
abbrev pub HasNoControls : PlainNetlist → Type 0
HasNoControls net = All (λ (v : Wanted). (v.reset ≡ None) × (v.preset ≡ None)) net.cells

-- a free cell: a register whose data are its name's, and whose pin follows Q until it is chosen, in a device that
-- complements after the register; and no register is reset or preset, since that would show which is chosen
pub record IsSoundFree (t : Table) (net : PlainNetlist) (w : Wanted) : Type 0 where
  pub registered : w.registered ≡ true
  pub buffer : w.buffer ≡ true
  pub named : w.raw ≡ false
  pub behind : t.flip ≡ AfterRegister
  pub no_controls : HasNoControls net

-- the netlist is one for the device: each cell is once, no signal waits for itself, and no reset reads a register, through
-- others or not
pub record IsSound (t : Table) (net : PlainNetlist) : Type 0 where
  pub few_nodes : length net.nodes ≤ 128
  pub nodes : All (IsSoundFunction t net) net.nodes
  pub cells : All (IsSoundCell t net) net.cells
  pub free : All (λ (w : Wanted). w.free ≡ true → IsSoundFree t net w) net.cells
  pub once : AllPairs (λ (a b : Wanted). a.cell ≢ b.cell) net.cells
  pub no_loop : HasNoNetlistLoop t net
  pub no_path : HasNoNetlistPath t net
