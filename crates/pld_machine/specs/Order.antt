-- The condition under which a logic can be settled slot by slot (this project's rule).
use Rattle.std.specs.Prelude.{◌≡◌, ℕ, ◌<◌, ◌≤◌, ◌≢◌, Bool, true, false, List, drop, slice_get, Some}
use Rattle.pld_machine.specs.Prelude.{is_on, Levels, IsPoint, is_register}
use Rattle.pld_machine.specs.declared.logic.Slot.{Slot}
use Rattle.pld_machine.specs.declared.logic.Slot.TheVariants.{Cell, Node}
use Rattle.pld_machine.specs.Rest.{IsSettled}
use Rattle.pld_machine.specs.Lookups.{Lookups, sets_pin, sets_node, logic_of}

-- two points that differ at most in the pins and nodes that these slots set
pub record DifferOnlyIn (m : Lookups) (slots : List Slot) (a b : Levels) : Type 0 where
  pub pins : (k : ℕ) → sets_pin m slots k ≡ false → is_on a.pins k ≡ is_on b.pins k
  pub q : a.q ≡ b.q
  pub nodes : (n : ℕ) → sets_node slots n ≡ false → is_on a.nodes n ≡ is_on b.nodes n

-- the slot asks the same at both points: a cell's enable, and its level at which it is enabled, or a
-- node's value
abbrev pub SameAt : Lookups → Slot → Levels → Levels → Type 0
SameAt m (Cell c) a b =
    (m.enable a c ≡ m.enable b c) × (m.enable a c ≡ true → m.level a c ≡ m.level b c)
SameAt m (Node n) a b = m.node a n ≡ m.node b n

-- the slot reads none of these slots
abbrev pub ReadsNone : Lookups → List Slot → Slot → Type 0
ReadsNone m slots slot = (a b : Levels) → DifferOnlyIn m slots a b → SameAt m slot a b

-- the slot is one of the cells, or a node below 128
abbrev pub InRange : Lookups → Slot → Type 0
InRange m (Cell c) = c < m.cells
InRange m (Node n) = n < 128

-- at most 32 cells, each with a pin of its own from 1 to 31 that is not the clock, and the clock is at
-- most 31
pub record HasPins (m : Lookups) : Type 0 where
  pub cells : m.cells ≤ 32
  pub first : (c : ℕ) → c < m.cells → 1 ≤ m.pin c
  pub last : (c : ℕ) → c < m.cells → m.pin c < 32
  pub no_clock : (c : ℕ) → c < m.cells → m.pin c ≢ m.clock
  pub apart : (c d : ℕ) → c < m.cells → d < m.cells → m.pin c ≡ m.pin d → c ≡ d
  pub clock : m.clock < 32

-- each cell is in exactly one slot, each node in at most one
pub record HasSlots (m : Lookups) : Type 0 where
  pub range : (i : ℕ) (slot : Slot) → slice_get m.slots i ≡ Some slot → InRange m slot
  pub each : (c : ℕ) → c < m.cells → sets_pin m m.slots (m.pin c) ≡ true
  pub once : (i j : ℕ) (slot : Slot)
      → slice_get m.slots i ≡ Some slot → slice_get m.slots j ≡ Some slot → i ≡ j

-- no slot reads itself or a later one
abbrev pub ReadsEarlier : Lookups → Type 0
ReadsEarlier m =
    (i : ℕ) (slot : Slot) → slice_get m.slots i ≡ Some slot → ReadsNone m (drop i m.slots) slot

-- no register's reset depends on a Q: it is the same at any two settled points with the same outside
-- levels, whatever their Qs
abbrev pub ResetsWithoutQ : Lookups → Type 0
ResetsWithoutQ m =
    (outside : List Bool) (a b : Levels) → IsPoint a → IsPoint b
    → IsSettled (logic_of m) outside a → IsSettled (logic_of m) outside b
    → (c : ℕ) → is_register (logic_of m) c ≡ true → m.reset a c ≡ m.reset b c

-- the whole condition: the pins, the slots, what the slots read, and what resets read
pub record IsOrdered (m : Lookups) : Type 0 where
  pub has_pins : HasPins m
  pub has_slots : HasSlots m
  pub reads : ReadsEarlier m
  pub resets : ResetsWithoutQ m
