-- What the signals of a netlist read while it settles, and what its resets read (this project's rule).
use Rattle.std.specs.Prelude.{ℕ, ◌+◌, ◌-◌, Bool, false, not, ◌&&◌, ◌||◌, nat_lt, if◌then◌else◌, Option, None, Some, length}
use Rattle.abel_meaning.specs.Prelude.{list_any, Table, cell_at, HasNoLoop, HasNoPath, Leaf}
use Rattle.bit_expr.specs.declared.node.Leaf.TheVariants as leaf
use Rattle.abel_meaning.specs.Netlists.{Wanted, PlainNetlist, node_at, wanted_at}
use Rattle.abel_meaning.specs.NetlistLogic.{netlist_stores}
use Rattle.abel_meaning.specs.SignalReads.{names_if_any, function_names}

-- while it settles, a cell reads its enable and, if it is combinational, its function
abbrev pub cell_names : Option Wanted → Leaf → Bool
cell_names None l = false
cell_names (Some w) l = names_if_any w.enable l || (not w.registered && function_names w.function l)

-- so many signals there are: the cells of the device, and after them the nodes
abbrev pub signal_count : Table → PlainNetlist → ℕ
signal_count t net = length t.cells + length net.nodes

-- a signal, which is a cell of the device or past these a node, names the leaf
abbrev pub netlist_names : Table → PlainNetlist → ℕ → Leaf → Bool
netlist_names t net v l =
    if nat_lt v (length t.cells)
    then cell_names (wanted_at net v) l
    else function_names (node_at net (v - length t.cells)) l

-- the signal is a register
abbrev pub is_register_signal : Table → PlainNetlist → ℕ → Bool
is_register_signal t net v = nat_lt v (length t.cells) && netlist_stores t net v

-- the leaf by which a cell is read: the Q of a register, else its pin
abbrev pub cell_leaf : Table → PlainNetlist → ℕ → Leaf
cell_leaf t net c = if netlist_stores t net c then leaf.Q c else leaf.Pin (cell_at t c).pin

-- the leaf by which a signal is read
abbrev pub signal_leaf : Table → PlainNetlist → ℕ → Leaf
signal_leaf t net v = if nat_lt v (length t.cells) then cell_leaf t net v else leaf.Node (v - length t.cells)

-- the first signal reads the second, whether or not its value depends on it
abbrev pub netlist_reads : Table → PlainNetlist → (v w : ℕ) → Bool
netlist_reads t net v w = netlist_names t net v (signal_leaf t net w)

-- the first waits for the second: it reads it, and the second is no register, since a register's Q doesn't
-- change
abbrev pub netlist_waits : Table → PlainNetlist → (v w : ℕ) → Bool
netlist_waits t net v w = not (is_register_signal t net w) && netlist_reads t net v w

-- the first, which is no register, reads the second
abbrev pub netlist_passes : Table → PlainNetlist → (v w : ℕ) → Bool
netlist_passes t net v w = not (is_register_signal t net v) && netlist_reads t net v w

-- some reset equation reads the signal
abbrev pub netlist_reset_reads : Table → PlainNetlist → ℕ → Bool
netlist_reset_reads t net v = list_any (λ (w : Wanted). names_if_any w.reset (signal_leaf t net v)) net.cells

-- no signal waits for itself through others
abbrev pub HasNoNetlistLoop : Table → PlainNetlist → Type 0
HasNoNetlistLoop t net = HasNoLoop (signal_count t net) (netlist_waits t net)

-- no reset reads a register, itself or through signals
abbrev pub HasNoNetlistPath : Table → PlainNetlist → Type 0
HasNoNetlistPath t net =
    HasNoPath (signal_count t net) (netlist_passes t net) (netlist_reset_reads t net) (is_register_signal t net)
