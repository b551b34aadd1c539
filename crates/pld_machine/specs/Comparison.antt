-- What it is for a device to do what a source says: a logic without nodes against one that may have nodes and
-- don't-cares (the main statement of any compiler of sources for devices).
use Rattle.std.specs.Prelude.{◌≡◌, ◌≢◌, ℕ, ◌<◌, Bool, true, false, List, [], ◌∷◌}
use Rattle.pld_machine.specs.Prelude.{is_on, Levels, IsPoint, Logic}
use Rattle.pld_machine.specs.Steps.{Run, RestsOnce, RunsOnce}

-- ---- points whose nodes are valued (any as 0)

-- the value that represents each node, which may depend on the others
abbrev pub NodeValues : Type 0
NodeValues = Levels → ℕ → Bool

-- each node has its value at the point, and an entry that belongs to no node is 0
pub record IsValued (m : Logic) (values : NodeValues) (at : Levels) : Type 0 where
  pub is_point : IsPoint at
  pub node : (n : ℕ) → n < 128 → m.is_node n ≡ true → is_on at.nodes n ≡ values at n
  pub no_node : (n : ℕ) → n < 128 → m.is_node n ≡ false → is_on at.nodes n ≡ false

-- the first point with its nodes valued
pub record IsValuedOf (m : Logic) (values : NodeValues) (at valued : Levels) : Type 0 where
  pub pins : valued.pins ≡ at.pins
  pub q : valued.q ≡ at.q
  pub is_valued : IsValued m values valued

-- the one such point
pub record IsTheValuedOf (m : Logic) (values : NodeValues) (at valued : Levels) : Type 0 where
  pub is : IsValuedOf m values at valued
  pub only : (other : Levels) → IsValuedOf m values at other → other ≡ valued

-- at every point the nodes can be valued in exactly one way
abbrev pub ValuesOnce : Logic → NodeValues → Type 0
ValuesOnce m values = (at : Levels) → IsPoint at → (valued : Levels) × IsTheValuedOf m values at valued

-- ---- the comparison

-- as many cells, with the same pins, the same of them registers, and the same clock
pub record SameCells (d s : Logic) : Type 0 where
  pub cells : d.cells ≡ s.cells
  pub pin : (c : ℕ) → c < s.cells → d.pin c ≡ s.pin c
  pub stores : (c : ℕ) → c < s.cells → d.stores c ≡ s.stores c
  pub clock : d.clock ≡ s.clock

-- the same cells are enabled in the device at the first point and in the source at the second
abbrev pub SameEnables : Logic → Logic → Levels → Levels → Type 0
SameEnables device source at valued = (c : ℕ) → c < device.cells → device.enabled at c ≡ source.enabled valued c

-- the points of the second list are seen for those of the first, one for one
abbrev pub AreSeen : (Levels → Levels → Type 0) → List Levels → List Levels → Type 0
AreSeen Sees [] [] = Unit {0}
AreSeen Sees (at ∷ points) (seen ∷ others) = Sees at seen × AreSeen Sees points others
AreSeen Sees [] (seen ∷ others) = ⊥
AreSeen Sees (at ∷ points) [] = ⊥

-- the source shows, drives and stores at the second point what the device does at the first: it is the first with
-- the source's nodes valued, and the same cells are enabled there
pub record IsShownAs (device source : Logic) (values : NodeValues) (at valued : Levels) : Type 0 where
  pub is : IsValuedOf source values at valued
  pub enables : SameEnables device source at valued

-- each run of the device, with the nodes at each point valued, is a run of the source
abbrev pub HasValuedRunsOf : Logic → Logic → NodeValues → Type 0
HasValuedRunsOf source device values =
    (outsides : List (List Bool)) (points : List Levels) → Run device outsides points
    → (valued : List Levels) × AreSeen (IsShownAs device source values) points valued × Run source outsides valued

-- exactly one of the two values is allowed
abbrev pub AllowsOne : (Bool → Bool) → Type 0
AllowsOne allows = allows true ≢ allows false

-- at every point each enabled cell's level, each node's value and each register's next Q is one
pub record HasNoDontCare (m : Logic) : Type 0 where
  pub level : (at : Levels) → IsPoint at → (c : ℕ) → c < m.cells → m.enabled at c ≡ true → AllowsOne (m.allows_level at c)
  pub node : (at : Levels) → IsPoint at → (n : ℕ) → n < 128 → m.is_node n ≡ true → AllowsOne (m.allows_node at n)
  pub next : (at : Levels) → IsPoint at → (c : ℕ) → c < m.cells → m.stores c ≡ true → AllowsOne (m.allows_next at c)

-- both have the same cells. From all outside levels and stored Qs the device settles in exactly one way, and it
-- has exactly one run for every list of outside levels that isn't empty; with the source's nodes valued, for which
-- there is one way, that is a run of the source, with the same cells enabled at each point; and if the source has
-- no don't-care, it has that run alone
pub record DoesTheSame (device source : Logic) (values : NodeValues) : Type 0 where
  pub same_cells : SameCells device source
  pub one_rest : RestsOnce device
  pub one_run : RunsOnce device
  pub one_value : ValuesOnce source values
  pub runs : HasValuedRunsOf source device values
  pub source_run : HasNoDontCare source → RunsOnce source
