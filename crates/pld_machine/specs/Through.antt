-- A logic that allows no more than another does at the points that are seen in place of its own (this project's
-- rule).
use Rattle.std.specs.Prelude.{◌≡◌, ℕ, ◌<◌, Bool, true, false, List}
use Rattle.pld_machine.specs.Prelude.{is_on, Levels, IsPoint, Logic}
use Rattle.pld_machine.specs.Rest.{AtRest}
use Rattle.pld_machine.specs.Comparison.{SameCells}

-- at a point and the one seen for it, the same cells are enabled and the same registers reset and preset; and
-- `s` allows an enabled cell's levels and a register's next Qs that `d` allows
pub record AllowsAt (d s : Logic) (at seen : Levels) : Type 0 where
  pub enabled : (c : ℕ) → c < s.cells → d.enabled at c ≡ s.enabled seen c
  pub level : (c : ℕ) → c < s.cells → s.enabled seen c ≡ true
      → (v : Bool) → d.allows_level at c v ≡ true → s.allows_level seen c v ≡ true
  pub reset : (c : ℕ) → c < s.cells → s.stores c ≡ true → d.reset at c ≡ s.reset seen c
  pub preset : (c : ℕ) → c < s.cells → s.stores c ≡ true → d.preset at c ≡ s.preset seen c
  pub next : (c : ℕ) → c < s.cells → s.stores c ≡ true
      → (v : Bool) → d.allows_next at c v ≡ true → s.allows_next seen c v ≡ true

-- the point has the other's pins and Qs, and its nodes are such as `s` allows
pub record IsSeenBy (s : Logic) (at seen : Levels) : Type 0 where
  pub is_point : IsPoint seen
  pub pins : seen.pins ≡ at.pins
  pub q : seen.q ≡ at.q
  pub node : (n : ℕ) → n < 128 → s.is_node n ≡ true → s.allows_node seen n (is_on seen.nodes n) ≡ true
  pub no_node : (n : ℕ) → n < 128 → s.is_node n ≡ false → is_on seen.nodes n ≡ false

-- the same cells; each point at rest of `d` is seen as some point; and wherever one is seen for another, it has
-- that one's pins and Qs, and `s` allows there what `d` allows
pub record RefinesThrough (d s : Logic) (Sees : Levels → Levels → Type 0) : Type 0 where
  pub same_cells : SameCells d s
  pub sees : (outside stored : List Bool) (at : Levels) → AtRest d outside stored at
      → (seen : Levels) × Sees at seen
  pub seen : (at seen : Levels) → Sees at seen → IsSeenBy s at seen
  pub allows : (at seen : Levels) → Sees at seen → AllowsAt d s at seen
