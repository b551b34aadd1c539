-- The points of a vector as vectors of their own: with its clocks at rest, turned, and back (JESD3-C, test vector field; that a
-- vector with a clock has three points is this project's reading).
use Rattle.std.specs.Prelude.{◌≡◌, ℕ, ◌==◌, Bool, true, false, if◌then◌else◌, List, [], ◌∷◌, flat_map, map}
use Rattle.device_sim.specs.VectorRun.{has_clock, outsides_of}

-- C is 0 at rest and 1 while the clocks are turned, K the other way round; every other character stays
abbrev pub phase_char : (turned : Bool) → (char : ℕ) → ℕ
phase_char false char = if char == 67 then 48 else (if char == 75 then 49 else char)
phase_char true char = if char == 67 then 49 else (if char == 75 then 48 else char)

-- the points of a vector: one, or three if it has a clock
abbrev pub phases : List ℕ → List (List ℕ)
phases chars =
    if has_clock chars
    then map (phase_char false) chars ∷ map (phase_char true) chars ∷ map (phase_char false) chars ∷ []
    else chars ∷ []

-- they drive what the vectors drive, one after the other
abbrev pub DriveTheSame : Type 0
DriveTheSame =
    (default : Bool) (vectors : List (List ℕ))
    → flat_map (outsides_of default) (flat_map phases vectors) ≡ flat_map (outsides_of default) vectors
