-- What the pins show at each vector of a run (this project's rule).
use Rattle.std.specs.Prelude.{◌≡◌, ◌≢◌, ℕ, ◌-◌, Bool, List, [], ◌∷◌, length, drop, flat_map, slice_get, Option, Some, None}
use Rattle.device_sim.specs.Prelude.{Trace, bits, Logic, Levels, Run}
use Rattle.pld_machine.specs.Shows.{Shows}
use Rattle.device_sim.specs.VectorRun.{outsides_of}

-- the logic shows this at a point that there is
abbrev pub IsShown : Logic → Option Levels → Trace → Type 0
IsShown m None trace = ⊥
IsShown m (Some at) trace = Shows m at (bits 32 trace.driven) (bits 32 trace.level)

-- each vector is shown at the last of its points
abbrev pub AreShown : Logic → Bool → List (List ℕ) → List Levels → List Trace → Type 0
AreShown m default [] points traces = traces ≡ []
AreShown m default (chars ∷ vectors) points [] = ⊥
AreShown m default (chars ∷ vectors) points (trace ∷ traces) =
    IsShown m (slice_get points (length (outsides_of default chars) - 1)) trace
    × AreShown m default vectors (drop (length (outsides_of default chars)) points) traces

-- the logic's run for the vectors, from power-up, and what it shows at each; no vectors, no run
pub record IsTraced (m : Logic) (default : Bool) (vectors : List (List ℕ)) (traces : List Trace) : Type 0 where
  pub points : List Levels
  pub runs : vectors ≢ [] → Run m (flat_map (outsides_of default) vectors) points
  pub shows : AreShown m default vectors points traces
