-- What a logic some of whose registers store the complement is to the logic itself (this project's rule; laws.rt states
-- the laws).
use Rattle.std.specs.Prelude.{◌≡◌, ℕ, Bool, true, false, List, [], ◌∷◌, length}
use Rattle.pld_machine.specs.Prelude.{Levels, Logic, is_register}
use Rattle.pld_machine.specs.Lookups.{Lookups, logic_of}
use Rattle.pld_machine.specs.Order.{IsOrdered}
use Rattle.pld_machine.specs.Refines.{Refines, SameValues}
use Rattle.pld_machine.specs.Rest.{AtRest}
use Rattle.pld_machine.specs.Steps.{Step, Steps}
use Rattle.pld_machine.specs.Comparison.{NodeValues}
use Rattle.pld_machine.specs.Exchanged.{exchanged, exchanged_at, exchanged_lookups, exchanged_qs, exchanged_values}

-- at rest at the first outside levels with these Qs stored, then a step for each of the others; a run is one from all 0
abbrev pub RunFrom : Logic → (stored : List Bool) → List (List Bool) → List Levels → Type 0
RunFrom m stored (outside ∷ rest) (first ∷ points) = AtRest m outside stored first × Steps m first rest points
RunFrom m stored [] points = ⊥
RunFrom m stored (outside ∷ rest) [] = ⊥

-- only registers are exchanged, and those are never reset or preset
pub record MayExchange (x : ℕ → Bool) (m : Logic) : Type 0 where
  pub registers : (c : ℕ) → x c ≡ true → is_register m c ≡ true
  pub no_reset : (at : Levels) (c : ℕ) → x c ≡ true → m.reset at c ≡ false
  pub no_preset : (at : Levels) (c : ℕ) → x c ≡ true → m.preset at c ≡ false

-- the points with their Qs exchanged
abbrev pub all_exchanged : (ℕ → Bool) → List Levels → List Levels
all_exchanged x [] = []
all_exchanged x (at ∷ points) = exchanged_at x at ∷ all_exchanged x points

-- ---- the laws

-- what refines another still does so with the same cells exchanged in both
abbrev pub ExchangedRefines : Type 0
ExchangedRefines = (x : ℕ → Bool) (d s : Logic) → Refines d s → Refines (exchanged x d) (exchanged x s)

-- so do values that represent nodes
abbrev pub ExchangedValues : Type 0
ExchangedValues =
    (x : ℕ → Bool) (m : Logic) (values others : NodeValues) → SameValues m values others
    → SameValues (exchanged x m) (exchanged_values x values) (exchanged_values x others)

-- a rest of the exchanged logic is a rest of the logic with the Qs exchanged, and the other way round
abbrev pub ExchangedRests : Type 0
ExchangedRests =
    (x : ℕ → Bool) (m : Logic) (outside stored : List Bool) (at : Levels) → MayExchange x m → length stored ≡ 32
    → (AtRest (exchanged x m) outside stored at → AtRest m outside (exchanged_qs x stored) (exchanged_at x at))
    × (AtRest m outside (exchanged_qs x stored) (exchanged_at x at) → AtRest (exchanged x m) outside stored at)

-- so is a step
abbrev pub ExchangedSteps : Type 0
ExchangedSteps =
    (x : ℕ → Bool) (m : Logic) (before : Levels) (outside : List Bool) (after : Levels) → MayExchange x m → length before.q ≡ 32
    → Step (exchanged x m) before outside after → Step m (exchanged_at x before) outside (exchanged_at x after)

-- and a run, from the exchanged Qs. From power-up with all Qs 0 the logic itself would begin with these at 1: so a run of the
-- exchanged logic is no run of the logic itself, but one from another state
abbrev pub ExchangedRuns : Type 0
ExchangedRuns =
    (x : ℕ → Bool) (m : Logic) (stored : List Bool) (outsides : List (List Bool)) (points : List Levels) → MayExchange x m
    → length stored ≡ 32 → RunFrom (exchanged x m) stored outsides points
    → RunFrom m (exchanged_qs x stored) outsides (all_exchanged x points)

-- look-ups in order stay so with cells exchanged, and are those of the exchanged logic
abbrev pub ExchangedLookups : Type 0
ExchangedLookups =
    (x : ℕ → Bool) (m : Lookups) → (IsOrdered m → IsOrdered (exchanged_lookups x m))
    × Refines (logic_of (exchanged_lookups x m)) (exchanged x (logic_of m))
    × Refines (exchanged x (logic_of m)) (logic_of (exchanged_lookups x m))
