-- A netlist with any as 0 as what the machine asks of a logic (this project's rule).
use Rattle.std.specs.Prelude.{ℕ, ◌-◌, nat_lt, if◌then◌else◌, List, map, length}
use Rattle.source_machine.specs.Prelude.{bits, is_on, exchanged_lookups, Lookups, Table, cell_at, formula_value, Wanted, PlainNetlist, plain_netlist, wanted_at, own_or_shared, drives, netlist_stores, netlist_values, netlist_waits, signal_count, IsSoundNetlist}
use Rattle.pld_machine.specs.declared.logic.Slot.{Slot}
use Rattle.pld_machine.specs.declared.logic.Slot.TheVariants as slot
use Rattle.pld_order.specs.Graphs.{IsOrder}
use Rattle.bit_expr.specs.declared.netlist.Netlist.{Netlist}
use Rattle.source_machine.specs.AnyAs0.{level_with_any_0, next_with_any_0}

-- a netlist; the order in which its signals settle: first the cells count, and after them the nodes; and which of the
-- cells store the complement, each by its bit
pub record Ordered : Type 0 where
  pub net : Netlist
  pub order : List ℕ
  pub complemented : ℕ

-- the slot of a signal
abbrev pub signal_slot : Table → ℕ → Slot
signal_slot t v = if nat_lt v (length t.cells) then slot.Cell v else slot.Node (v - length t.cells)

-- what the machine asks of the netlist, a slot for each signal in this order
abbrev pub netlist_lookups : Table → PlainNetlist → (order : List ℕ) → Lookups
netlist_lookups t net order =
    record {
      cells = length t.cells;
      pin = λ c. (cell_at t c).pin;
      stores = netlist_stores t net;
      clock = t.clock;
      slots = map (signal_slot t) order;
      enable = λ at c. drives at (wanted_at net c) (cell_at t c).enable;
      level = λ at c. level_with_any_0 at (cell_at t c).kinds c (wanted_at net c);
      node = netlist_values net;
      reset = λ at c. formula_value at (own_or_shared (λ (w : Wanted). w.reset) net c);
      preset = λ at c. formula_value at (own_or_shared (λ (w : Wanted). w.preset) net c);
      next = λ at c. next_with_any_0 at (wanted_at net c);
    }

-- the same, if some of the cells store the complement
abbrev pub ordered_lookups : Table → Ordered → Lookups
ordered_lookups t l =
    exchanged_lookups (is_on (bits 32 l.complemented)) (netlist_lookups t (plain_netlist l.net) l.order)

-- all signals, each once, none of which waits for itself or one that follows it
abbrev pub IsSignalOrder : Table → PlainNetlist → (order : List ℕ) → Type 0
IsSignalOrder t net order = IsOrder (signal_count t net) (netlist_waits t net) order

-- the device can take the netlist, and each of its signals waits for earlier ones alone
pub record IsSoundOrdered (t : Table) (net : Netlist) (order : List ℕ) : Type 0 where
  pub sound : IsSoundNetlist t net
  pub in_order : IsSignalOrder t (plain_netlist net) order
