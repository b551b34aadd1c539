-- How the vectors' run is computed, one vector after another. These are private helpers: no public clause cites
-- them.
use Rattle.std.specs.Prelude.{◌≡◌, ℕ, Bool, if◌then◌else◌, Option, None, Some, List, [], ◌∷◌, map, take, flat_map}
use Rattle.device_sim.specs.Prelude.{Trace, Levels, Lookups, logic_of, power_up}
use Rattle.pld_base.specs.declared.point.Vector.{Vector}
use Rattle.pld_machine.specs.Settling.{rest_of, step_of}
use Rattle.device_sim.specs.declared.report.Mismatch.{Mismatch}
use Rattle.device_sim.specs.Traced.{IsShown}
use Rattle.device_sim.specs.VectorRun.{level_before, level_turned, outsides_of, mismatches_of}

-- the characters of a vector at pins 1 to the last one, and those of all vectors
abbrev pub chars_at : (pins : ℕ) → Vector → List ℕ
chars_at pins vector = take pins vector.chars

abbrev pub all_chars_at : (pins : ℕ) → List Vector → List (List ℕ)
all_chars_at pins vectors = map (chars_at pins) vectors

-- a pin's outside level, while the clocks are turned or not
abbrev pub level_for : (turned default : Bool) → ℕ → Bool
level_for turned default = if turned then level_turned default else level_before default

-- the point after the one that there may be: after a step, or at rest from power-up
unfoldable pub point_after : Lookups → Option Levels → List Bool → Levels
point_after m None outside = rest_of m outside power_up
point_after m (Some at) outside = step_of m at outside

-- the points at these outside levels, one after another
abbrev pub points_after : Lookups → Option Levels → List (List Bool) → List Levels
points_after m before [] = []
points_after m before (outside ∷ rest) =
    point_after m before outside ∷ points_after m (Some (point_after m before outside)) rest

-- the last of them, or the point that there was before
abbrev pub last_after : Lookups → Option Levels → List (List Bool) → Option Levels
last_after m before [] = before
last_after m before (outside ∷ rest) = last_after m (Some (point_after m before outside)) rest

-- if the vectors from this number on disagree, after the point that there may be
unfoldable pub mismatches_after : Lookups → Bool → (vector : ℕ) → Option Levels → List (List ℕ) → List Mismatch
mismatches_after m default vector before vectors =
    mismatches_of (logic_of m) default vector vectors (points_after m before (flat_map (outsides_of default) vectors))

-- each vector is shown at its last point, after the point that there may be
abbrev pub ShownAfter : Lookups → Bool → Option Levels → List (List ℕ) → List Trace → Type 0
ShownAfter m default before [] traces = traces ≡ []
ShownAfter m default before (chars ∷ vectors) [] = ⊥
ShownAfter m default before (chars ∷ vectors) (trace ∷ traces) =
    IsShown (logic_of m) (last_after m before (outsides_of default chars)) trace
    × ShownAfter m default (last_after m before (outsides_of default chars)) vectors traces
