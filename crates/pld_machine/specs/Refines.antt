-- A logic that allows no more than another, also with the nodes of the other valued (this project's rule).
use Rattle.std.specs.Prelude.{◌≡◌, ℕ, ◌<◌, Bool, true, false, List}
use Rattle.pld_machine.specs.Prelude.{Levels, IsPoint, Logic}
use Rattle.pld_machine.specs.Rest.{AtRest}
use Rattle.pld_machine.specs.Steps.{Step, Run}
use Rattle.pld_machine.specs.Comparison.{SameCells, NodeValues, ValuesOnce, IsValuedOf, HasNoDontCare}
use Rattle.pld_machine.specs.Through.{AllowsAt}

-- the same cells, clock and nodes; and at each point `s` has the same enables, resets and presets, and allows the
-- levels, values and next Qs that `d` allows
pub record Refines (d s : Logic) : Type 0 where
  pub same_cells : SameCells d s
  pub is_node : (n : ℕ) → n < 128 → d.is_node n ≡ s.is_node n
  pub allows : (at : Levels) → IsPoint at → AllowsAt d s at at
  pub node : (at : Levels) → IsPoint at → (n : ℕ) → n < 128
      → (v : Bool) → d.allows_node at n v ≡ true → s.allows_node at n v ≡ true

-- `s` has every point at rest of `d`
abbrev pub HasRestsOf : Logic → Logic → Type 0
HasRestsOf s d =
    (outside stored : List Bool) (at : Levels)
    → AtRest d outside stored at → AtRest s outside stored at

-- `s` has every step of `d`
abbrev pub HasStepsOf : Logic → Logic → Type 0
HasStepsOf s d =
    (before : Levels) (outside : List Bool) (after : Levels)
    → Step d before outside after → Step s before outside after

-- `s` has every run of `d`
abbrev pub HasRunsOf : Logic → Logic → Type 0
HasRunsOf s d =
    (outsides : List (List Bool)) (points : List Levels)
    → Run d outsides points → Run s outsides points

-- ---- with the nodes valued

-- at every point the logic allows each node its value
abbrev pub AllowsValues : Logic → NodeValues → Type 0
AllowsValues m values =
    (at : Levels) → IsPoint at → (n : ℕ) → n < 128 → m.is_node n ≡ true → m.allows_node at n (values at n) ≡ true

-- no entry of a point belongs to a node
abbrev pub HasNoNodes : Logic → Type 0
HasNoNodes m = (n : ℕ) → n < 128 → m.is_node n ≡ false

-- at every point the same values represent the nodes
abbrev pub SameValues : Logic → NodeValues → NodeValues → Type 0
SameValues m values others =
    (at : Levels) → IsPoint at → (n : ℕ) → n < 128 → m.is_node n ≡ true → values at n ≡ others at n

-- the device has no nodes and no don't-care; and at each point, with the source's nodes valued there, the source
-- allows what the device does
pub record RefinesValued (device source : Logic) (values : NodeValues) : Type 0 where
  pub same_cells : SameCells device source
  pub no_nodes : HasNoNodes device
  pub one_each : HasNoDontCare device
  pub one_value : ValuesOnce source values
  pub allowed : AllowsValues source values
  pub allows : (at valued : Levels) → IsPoint at → IsValuedOf source values at valued → AllowsAt device source at valued
