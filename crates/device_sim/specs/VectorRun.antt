-- The run that test vectors drive, and if it disagrees with them (JESD3-C, test vector field; that a vector with a
-- clock takes two further steps is this project's reading).
use Rattle.std.specs.Prelude.{◌≡◌, ◌≢◌, ℕ, suc, ◌-◌, ◌==◌, ◌&&◌, not, Bool, true, false, if◌then◌else◌, List, [], ◌∷◌, ◌++◌, length, map, drop, replicate, flat_map, slice_get, Option, Some, None, codes}
use Rattle.device_sim.specs.Prelude.{list_any, range_with_len, is_on, Levels, Logic, is_among, Run}
use Rattle.device_sim.specs.declared.report.Mismatch.{Mismatch}

-- ---- outside levels

-- 0 and C drive 0, 1 and K drive 1; every other character leaves the default level
abbrev pub level_before : Bool → ℕ → Bool
level_before default char =
    if is_among (codes "0C") char then false else if is_among (codes "1K") char then true else default

-- the same while the clocks are turned: C drives 1, K drives 0
abbrev pub level_turned : Bool → ℕ → Bool
level_turned default char =
    if is_among (codes "0K") char then false else if is_among (codes "1C") char then true else default

-- a level for each of 32 places: that of a pin's character at the pin, 0 if no pin is
unfoldable pub at_pins : (ℕ → Bool) → List ℕ → List Bool
at_pins level chars = false ∷ map level chars ++ replicate (31 - length chars) false

-- some pin has a clock
abbrev pub has_clock : List ℕ → Bool
has_clock chars = list_any (is_among (codes "CK")) chars

-- the outside levels of a vector, one after another: with a clock, those before, turned, and back
unfoldable pub outsides_of : Bool → List ℕ → List (List Bool)
outsides_of default chars =
    at_pins (level_before default) chars
    ∷ (if has_clock chars
    then at_pins (level_turned default) chars ∷ at_pins (level_before default) chars ∷ []
    else [])

-- ---- tests

-- some cell drives the pin
abbrev pub is_driven : Logic → Levels → ℕ → Bool
is_driven m at pin = list_any (λ c. m.pin c == pin && m.enabled at c) (range_with_len 0 m.cells)

-- what is found at a pin that is driven or not, with this level: H driven with 1, L driven with 0, Z released
abbrev pub found : (driven level : Bool) → ℕ
found driven level = if driven then (if level then 72 else 76) else 90

-- what is found at a pin; one that is no cell's is released
abbrev pub found_at : Logic → Levels → ℕ → ℕ
found_at m at pin = found (is_driven m at pin) (is_on at.pins pin)

-- H, L and Z test
abbrev pub is_tested : ℕ → Bool
is_tested = is_among (codes "HLZ")

-- a mismatch, if the character tests its pin and something else is found there
abbrev pub if_mismatch : Mismatch → List Mismatch
if_mismatch it = if is_tested it.expects && not (it.expects == it.finds) then it ∷ [] else []

-- if a pin disagrees with its character
abbrev pub mismatch_at : Logic → Levels → (vector pin char : ℕ) → List Mismatch
mismatch_at m at vector pin char =
    if_mismatch (record { vector = vector; pin = pin; expects = char; finds = found_at m at pin })

-- if the pins from this one on disagree with their characters
abbrev pub vector_mismatches : Logic → Levels → (vector pin : ℕ) → List ℕ → List Mismatch
vector_mismatches m at vector pin [] = []
vector_mismatches m at vector pin (char ∷ chars) =
    mismatch_at m at vector pin char ++ vector_mismatches m at vector (suc pin) chars

-- the same at a point that there is
abbrev pub mismatches_where : Logic → Option Levels → (vector : ℕ) → List ℕ → List Mismatch
mismatches_where m None vector chars = []
mismatches_where m (Some at) vector chars = vector_mismatches m at vector 1 chars

-- the vectors from this number on, each of which is tested at the last of its points
abbrev pub mismatches_of : Logic → Bool → (vector : ℕ) → List (List ℕ) → List Levels → List Mismatch
mismatches_of m default vector [] points = []
mismatches_of m default vector (chars ∷ vectors) points =
    mismatches_where m (slice_get points (length (outsides_of default chars) - 1)) vector chars
    ++ mismatches_of m default (suc vector) vectors (drop (length (outsides_of default chars)) points)

-- ---- the run

-- the logic's run for the vectors, from power-up, and what it disagrees with; no vectors, no run
pub record IsVectorRun (m : Logic) (default : Bool) (vectors : List (List ℕ)) (list : List Mismatch) : Type 0 where
  pub points : List Levels
  pub runs : vectors ≢ [] → Run m (flat_map (outsides_of default) vectors) points
  pub disagrees : list ≡ mismatches_of m default 1 vectors points
