-- How the one point at rest is computed, one slot after another. These are private helpers: no public
-- clause cites them.
use Rattle.std.specs.Prelude.{ℕ, Bool, not, ◌&&◌, ◌||◌, nat_lt, if◌then◌else◌, List, [], ◌∷◌, set, map, ◌==◌}
use Rattle.pld_machine.specs.Prelude.{range_with_len, bits, Levels, Logic}
use Rattle.pld_machine.specs.declared.logic.Slot.{Slot}
use Rattle.pld_machine.specs.declared.logic.Slot.TheVariants.{Cell, Node}
use Rattle.pld_machine.specs.Lookups.{Lookups, logic_of}
use Rattle.pld_machine.specs.Rest.{q_at_rest}
use Rattle.pld_machine.specs.Steps.{IsTheRest, rises, clock_held, power_up}

-- the point with this level at a pin
abbrev pub with_pin : Levels → ℕ → Bool → Levels
with_pin at k on = record { pins = set at.pins k on; q = at.q; nodes = at.nodes }

-- the point with this value at a node
abbrev pub with_node : Levels → ℕ → Bool → Levels
with_node at n on = record { pins = at.pins; q = at.q; nodes = set at.nodes n on }

-- the point after this slot
abbrev pub settle_slot : Lookups → Levels → Slot → Levels
settle_slot m at (Cell c) = if m.enable at c then with_pin at (m.pin c) (m.level at c) else at
settle_slot m at (Node n) = with_node at n (m.node at n)

-- the point after these slots
abbrev pub settle : Lookups → Levels → List Slot → Levels
settle m at [] = at
settle m at (slot ∷ slots) = settle m (settle_slot m at slot) slots

-- the point from which the slots are settled
abbrev pub start : List Bool → List Bool → Levels
start outside q = record { pins = outside; q = q; nodes = bits 128 0 }

-- the point after all slots, with these Qs
abbrev pub settled_of : Lookups → List Bool → List Bool → Levels
settled_of m outside q = settle m (start outside q) m.slots

-- the 32 values of a function
abbrev pub filled : (ℕ → Bool) → List Bool
filled f = map f (range_with_len 0 32)

-- the Q of a cell after the clock's edge
abbrev pub q_at_edge : Lookups → Levels → ℕ → Bool
q_at_edge m at c =
    nat_lt c m.cells && m.stores c && (not (m.reset at c) && (m.preset at c || m.next at c))

-- the point at rest: the slots, then the Qs that rest there, then the slots again
abbrev pub rest_of : Lookups → List Bool → List Bool → Levels
rest_of m outside stored =
    settled_of m outside (filled (q_at_rest (logic_of m) stored (settled_of m outside stored)))

-- the Qs after the clock's new level at the point between
abbrev pub clocked_of : Lookups → Levels → List Bool → Levels → List Bool
clocked_of m before outside between =
    if rises (logic_of m) before outside then filled (q_at_edge m between) else between.q

-- the point at rest before the clock's new level
abbrev pub between_of : Lookups → Levels → List Bool → Levels
between_of m before outside = rest_of m (clock_held (logic_of m) before outside) before.q

-- the point after a step
abbrev pub step_of : Lookups → Levels → List Bool → Levels
step_of m before outside =
    if m.clock == 0
    then rest_of m outside before.q
    else rest_of m outside (clocked_of m before outside (between_of m before outside))

-- the points after a step for each of these outside levels
abbrev pub steps_of : Lookups → Levels → List (List Bool) → List Levels
steps_of m at [] = []
steps_of m at (outside ∷ rest) = step_of m at outside ∷ steps_of m (step_of m at outside) rest

-- the run from power-up
abbrev pub run_of : Lookups → List Bool → List (List Bool) → List Levels
run_of m first rest = rest_of m first power_up ∷ steps_of m (rest_of m first power_up) rest

-- the point is the one at rest for these outside levels, whatever Qs were stored
abbrev pub RestsFor : Logic → List Bool → Levels → Type 0
RestsFor m outside at = (stored : List Bool) × IsTheRest m outside stored at
