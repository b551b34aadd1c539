-- A netlist with any as 0, as a logic: the one value of each set that it allows (this project's rule).
use Rattle.std.specs.Prelude.{ℕ, Bool, false, not, if◌then◌else◌, Option, None, Some}
use Rattle.pld_device.specs.declared.kinds.Kinds.{Kinds}
use Rattle.abel_meaning.specs.NetlistLogic.{spare_level}
use Rattle.source_machine.specs.Prelude.{is_on, same_level, Levels, Logic, Table, cell_at, value_with_any_0, Wanted, PlainNetlist, wanted_at, function_at, as_named, netlist_logic, netlist_values}
use Rattle.pld_device.specs.Macrocells.{complement_if}

-- the pin's level, or the next Q, at which the function has its value with any as 0: as the value of a pin is turned
-- into that of its name, so is the one of the name into the pin's
abbrev pub data_with_any_0 : Levels → Wanted → Bool
data_with_any_0 at w = as_named w (value_with_any_0 (function_at at w.function))

-- the level of an enabled cell: a register's is Q, or the complement of Q
abbrev pub level_with_any_0 : Levels → Kinds → ℕ → Option Wanted → Bool
level_with_any_0 at kinds c None = spare_level kinds (is_on at.q c)
level_with_any_0 at kinds c (Some w) =
    if w.registered then complement_if (not w.buffer) (is_on at.q c) else data_with_any_0 at w

-- the next Q of a register; 0 if it is assigned nothing
abbrev pub next_with_any_0 : Levels → Option Wanted → Bool
next_with_any_0 at None = false
next_with_any_0 at (Some w) = data_with_any_0 at w

-- the netlist's logic with any as 0
abbrev pub netlist_with_any_0 : Table → PlainNetlist → Logic
netlist_with_any_0 t net =
    record (netlist_logic t net) {
      allows_level = λ at c level. same_level level (level_with_any_0 at (cell_at t c).kinds c (wanted_at net c));
      allows_node = λ at n v. same_level v (netlist_values net at n);
      allows_next = λ at c q. same_level q (next_with_any_0 at (wanted_at net c));
    }
