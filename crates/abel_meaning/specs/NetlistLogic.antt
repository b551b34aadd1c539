-- A netlist as a logic: what it drives, releases and stores in a device (this project's rule).
use Rattle.std.specs.Prelude.{ℕ, Bool, true, false, not, ◌&&◌, nat_lt, if◌then◌else◌, Option, None, Some, unwrap_or, length}
use Rattle.abel_meaning.specs.Prelude.{is_on, same_level, Levels, Logic, NodeValues, Enable, Row, PinLow, Driven, Released, Kinds, complement_if, Table, cell_at, Formula, Const, formula_value}
use Rattle.pld_device.specs.Registers.{stores_by}
use Rattle.abel_meaning.specs.Functions.{allows, value_with_any_0}
use Rattle.abel_meaning.specs.Netlists.{Wanted, PlainNetlist, node_at, wanted_at, function_at, as_named, own_or_shared}

-- a cell is a register if it is asked to be; one that is assigned nothing, if it can't be anything else
abbrev pub registers_as : Kinds → Option Wanted → Bool
registers_as kinds None = stores_by kinds false
registers_as kinds (Some w) = w.registered

-- the cell is a register
abbrev pub netlist_stores : Table → PlainNetlist → ℕ → Bool
netlist_stores t net c = registers_as (cell_at t c).kinds (wanted_at net c)

-- the enable of an assigned cell; always without one
abbrev pub enable_of : Wanted → Formula
enable_of w = unwrap_or w.enable (Const true)

-- the cell drives its pin: by its enable, while a pin is low, always or never; one that is assigned nothing not by a row
abbrev pub drives : Levels → Option Wanted → Enable → Bool
drives at None (Row row) = false
drives at (Some w) (Row row) = formula_value at (enable_of w)
drives at None (PinLow pin) = not (is_on at.pins pin)
drives at (Some w) (PinLow pin) = not (is_on at.pins pin)
drives at found Driven = true
drives at found Released = false

-- the level of an enabled cell that is assigned nothing: a register's is the complement of Q, any other's 1
abbrev pub spare_level : Kinds → (q : Bool) → Bool
spare_level kinds q = not (stores_by kinds false && q)

-- a level that an enabled cell may have: a register's is Q, or the complement of Q
abbrev pub may_drive : Levels → Kinds → ℕ → Option Wanted → Bool → Bool
may_drive at kinds c None level = same_level level (spare_level kinds (is_on at.q c))
may_drive at kinds c (Some w) level =
    if w.registered
    then same_level level (complement_if (not w.buffer) (is_on at.q c))
    else allows (function_at at w.function) (as_named w level)

-- a next Q that a register may have; 0 if it is assigned nothing
abbrev pub may_store : Levels → Option Wanted → Bool → Bool
may_store at None q = not q
may_store at (Some w) q = allows (function_at at w.function) (as_named w q)

-- a netlist in a device as a logic, cells in the device's order
abbrev pub netlist_logic : Table → PlainNetlist → Logic
netlist_logic t net =
    record {
      cells = length t.cells;
      pin = λ c. (cell_at t c).pin;
      stores = netlist_stores t net;
      clock = t.clock;
      is_node = λ n. nat_lt n (length net.nodes);
      enabled = λ at c. drives at (wanted_at net c) (cell_at t c).enable;
      allows_level = λ at c level. may_drive at (cell_at t c).kinds c (wanted_at net c) level;
      allows_node = λ at n v. allows (function_at at (node_at net n)) v;
      reset = λ at c. formula_value at (own_or_shared (λ (w : Wanted). w.reset) net c);
      preset = λ at c. formula_value at (own_or_shared (λ (w : Wanted). w.preset) net c);
      allows_next = λ at c q. may_store at (wanted_at net c) q;
    }

-- the value that represents each node: that of its function with any as 0
abbrev pub netlist_values : PlainNetlist → NodeValues
netlist_values net at n = value_with_any_0 (function_at at (node_at net n))
