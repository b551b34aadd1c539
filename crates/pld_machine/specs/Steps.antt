-- Steps from a point to new outside levels, and runs from power-up (this project's rule: the clock's edge follows all other
-- pins have changed, so that data see the clock's old level); and what it is for a logic to have exactly one point at rest,
-- one step and one run.
use Rattle.std.specs.Prelude.{◌≡◌, ℕ, ◌<◌, Bool, true, false, not, ◌&&◌, ◌==◌, if◌then◌else◌, List, [], ◌∷◌, length, set, replicate, MatchBool, ◌≢◌}
use Rattle.pld_machine.specs.Prelude.{All, is_on, Levels, Logic, is_register}
use Rattle.pld_machine.specs.Rest.{AtRest}

-- the clock goes from 0 to 1
abbrev pub rises : Logic → Levels → List Bool → Bool
rises m before outside = not (is_on before.pins m.clock) && is_on outside m.clock

-- the outside levels, but the clock has the level that it had before
abbrev pub clock_held : Logic → Levels → List Bool → List Bool
clock_held m before outside = set outside m.clock (is_on before.pins m.clock)

-- a Q that a cell may have after the clock's edge at a point: 0 under reset, else 1 under preset, else
-- what its data allow; a cell that stores nothing has Q 0
abbrev pub allows_q : Logic → Levels → ℕ → Bool → Bool
allows_q m at c q =
    if is_register m c
    then (if m.reset at c then not q else (if m.preset at c then q else m.allows_next at c q))
    else not q

-- a step of a logic with a clock: all pins but the clock change and the logic settles, between the two points; the Qs
-- change there if the clock rises; then the clock has its new level and the logic settles
pub record ClockedStep (m : Logic) (before : Levels) (outside : List Bool) (after : Levels) : Type 0 where
  pub between : Levels
  pub first : AtRest m (clock_held m before outside) before.q between
  pub q : List Bool
  pub q_length : length q ≡ 32
  pub edge : rises m before outside ≡ true
      → (c : ℕ) → c < 32 → allows_q m between c (is_on q c) ≡ true
  pub no_edge : rises m before outside ≡ false → q ≡ between.q
  pub last : AtRest m outside q after

-- a step from a point to new outside levels; a logic without a clock only settles
abbrev pub Step : Logic → Levels → List Bool → Levels → Type 0
Step m before outside after =
    MatchBool (m.clock == 0) (AtRest m outside before.q after) (ClockedStep m before outside after)

-- a step for each of the outside levels, one after another
abbrev pub Steps : Logic → Levels → List (List Bool) → List Levels → Type 0
Steps m at [] [] = Unit {0}
Steps m at (outside ∷ rest) (next ∷ points) = Step m at outside next × Steps m next rest points
Steps m at [] (next ∷ points) = ⊥
Steps m at (outside ∷ rest) [] = ⊥

-- the registers at power-up: each Q is 0
abbrev pub power_up : List Bool
power_up = replicate 32 false

-- a run: at rest at the first outside levels with each Q 0, then a step for each of the others
abbrev pub Run : Logic → List (List Bool) → List Levels → Type 0
Run m (outside ∷ rest) (first ∷ points) = AtRest m outside power_up first × Steps m first rest points
Run m [] points = ⊥
Run m (outside ∷ rest) [] = ⊥

-- ---- exactly one

-- the one point at rest for these outside levels and stored Qs
pub record IsTheRest (m : Logic) (outside stored : List Bool) (at : Levels) : Type 0 where
  pub at_rest : AtRest m outside stored at
  pub only : (other : Levels) → AtRest m outside stored other → other ≡ at

-- the one point after a step to these outside levels
pub record IsTheStep (m : Logic) (before : Levels) (outside : List Bool) (after : Levels) : Type 0 where
  pub steps : Step m before outside after
  pub only : (other : Levels) → Step m before outside other → other ≡ after

-- the one run for these outside levels
pub record IsTheRun (m : Logic) (outsides : List (List Bool)) (points : List Levels) : Type 0 where
  pub runs : Run m outsides points
  pub only : (others : List Levels) → Run m outsides others → others ≡ points

-- outside levels, or stored Qs: one for each of 32 places
abbrev pub IsWide : List Bool → Type 0
IsWide levels = length levels ≡ 32

-- for all outside levels and all stored Qs there is exactly one point at rest
abbrev pub RestsOnce : Logic → Type 0
RestsOnce m =
    (outside stored : List Bool) → IsWide outside → IsWide stored
    → (at : Levels) × IsTheRest m outside stored at

-- from all Qs and all outside levels exactly one point follows a step to all others
abbrev pub StepsOnce : Logic → Type 0
StepsOnce m =
    (before : Levels) (outside : List Bool) → IsWide before.q → IsWide outside
    → (after : Levels) × IsTheStep m before outside after

-- for every list of outside levels that isn't empty there is exactly one run
abbrev pub RunsOnce : Logic → Type 0
RunsOnce m =
    (outsides : List (List Bool)) → outsides ≢ [] → All IsWide outsides
    → (points : List Levels) × IsTheRun m outsides points

-- it settles, steps and runs in exactly one way, from every state
pub record IsDetermined (m : Logic) : Type 0 where
  pub rests : RestsOnce m
  pub steps : StepsOnce m
  pub runs : RunsOnce m
