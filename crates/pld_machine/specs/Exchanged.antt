-- Logics some of whose registers store the complement of what they represent (this project's rule).
use Rattle.std.specs.Prelude.{ℕ, suc, Bool, true, false, not, List, [], ◌∷◌}
use Rattle.pld_machine.specs.Prelude.{Levels, Logic}
use Rattle.pld_machine.specs.Comparison.{NodeValues}
use Rattle.pld_machine.specs.Lookups.{Lookups}

-- a Q in the other sense, or as it is
abbrev pub in_sense : (other : Bool) → Bool → Bool
in_sense true q = not q
in_sense false q = q

-- the Qs from cell c on, complemented at the cells that are reported
abbrev pub exchanged_from : (ℕ → Bool) → (c : ℕ) → List Bool → List Bool
exchanged_from x c [] = []
exchanged_from x c (q ∷ qs) = in_sense (x c) q ∷ exchanged_from x (suc c) qs

abbrev pub exchanged_qs : (ℕ → Bool) → List Bool → List Bool
exchanged_qs x qs = exchanged_from x 0 qs

-- the point with its Qs complemented at these cells
abbrev pub exchanged_at : (ℕ → Bool) → Levels → Levels
exchanged_at x at = record { pins = at.pins; q = exchanged_qs x at.q; nodes = at.nodes }

-- the logic in which these cells store the complement: it asks of a point what the other asks of the point with their
-- Qs complemented, and their next Qs are the complements
abbrev pub exchanged : (ℕ → Bool) → Logic → Logic
exchanged x m =
    record {
      cells = m.cells;
      pin = m.pin;
      stores = m.stores;
      clock = m.clock;
      is_node = m.is_node;
      enabled = λ at c. m.enabled (exchanged_at x at) c;
      allows_level = λ at c v. m.allows_level (exchanged_at x at) c v;
      allows_node = λ at n v. m.allows_node (exchanged_at x at) n v;
      reset = λ at c. m.reset (exchanged_at x at) c;
      preset = λ at c. m.preset (exchanged_at x at) c;
      allows_next = λ at c q. m.allows_next (exchanged_at x at) c (in_sense (x c) q);
    }

-- the values that represent its nodes
abbrev pub exchanged_values : (ℕ → Bool) → NodeValues → NodeValues
exchanged_values x values at n = values (exchanged_at x at) n

-- the look-ups of a logic in which these cells store the complement
abbrev pub exchanged_lookups : (ℕ → Bool) → Lookups → Lookups
exchanged_lookups x m =
    record {
      cells = m.cells;
      pin = m.pin;
      stores = m.stores;
      clock = m.clock;
      slots = m.slots;
      enable = λ at c. m.enable (exchanged_at x at) c;
      level = λ at c. m.level (exchanged_at x at) c;
      node = λ at n. m.node (exchanged_at x at) n;
      reset = λ at c. m.reset (exchanged_at x at) c;
      preset = λ at c. m.preset (exchanged_at x at) c;
      next = λ at c. in_sense (x c) (m.next (exchanged_at x at) c);
    }
