-- What the trait `Logic` answers: a logic that allows one value of each (this project's rule).
use Rattle.std.specs.Prelude.{ℕ, Bool, false, ◌||◌, ◌==◌, List, [], ◌∷◌}
use Rattle.pld_machine.specs.Prelude.{same_level, Levels, Logic}
use Rattle.pld_machine.specs.declared.logic.Slot.{Slot}
use Rattle.pld_machine.specs.declared.logic.Slot.TheVariants.{Cell, Node}

-- cells with their pins, which of them store, the clock's pin (0: none), the slots in which cells and
-- nodes settle; and at each point a cell's enable, its pin's level while enabled, a node's value, and a
-- cell's reset, preset and next Q
pub record Lookups : Type 0 where
  pub cells : ℕ
  pub pin : ℕ → ℕ
  pub stores : ℕ → Bool
  pub clock : ℕ
  pub slots : List Slot
  pub enable : Levels → ℕ → Bool
  pub level : Levels → ℕ → Bool
  pub node : Levels → ℕ → Bool
  pub reset : Levels → ℕ → Bool
  pub preset : Levels → ℕ → Bool
  pub next : Levels → ℕ → Bool

-- some slot of the list is a cell on this pin
abbrev pub sets_pin : Lookups → List Slot → ℕ → Bool
sets_pin m [] k = false
sets_pin m (Cell c ∷ slots) k = (m.pin c == k) || sets_pin m slots k
sets_pin m (Node n ∷ slots) k = sets_pin m slots k

-- some slot of the list is this node
abbrev pub sets_node : List Slot → ℕ → Bool
sets_node [] n = false
sets_node (Cell c ∷ slots) n = sets_node slots n
sets_node (Node i ∷ slots) n = (i == n) || sets_node slots n

-- the logic itself: its nodes are those of its slots, and each set of allowed values has one value
abbrev pub logic_of : Lookups → Logic
logic_of m =
    record {
      cells = m.cells;
      pin = m.pin;
      stores = m.stores;
      clock = m.clock;
      is_node = λ n. sets_node m.slots n;
      enabled = m.enable;
      allows_level = λ at c v. same_level v (m.level at c);
      allows_node = λ at n v. same_level v (m.node at n);
      reset = m.reset;
      preset = m.preset;
      allows_next = λ at c v. same_level v (m.next at c);
    }
