-- Why a module isn't placed (this project's rule).
use Rattle.std.specs.Prelude.{◌≡◌, ℕ, List, map, get_or}
use Rattle.placer.specs.Prelude.{Table, ModuleTree, IsKept}
use Rattle.placer.specs.declared.fault.PlaceFault.{PlaceFault}
use Rattle.placer.specs.declared.fault.PlaceFault.TheVariants.{NoPlacement, OutOfMemory}
use Rattle.placer.specs.Placements.{HasNoPlacement}

-- the refusal has its cause; lack of memory has none
abbrev pub IsUnplaced : Table → ModuleTree → PlaceFault → Type 0
IsUnplaced t m (NoPlacement signals places) = HasNoPlacement t m signals.items places
IsUnplaced t m OutOfMemory = Unit {0}

-- what is reported of signals with these wishes: the set that is kept, by the signals' numbers
abbrev pub TellsKeptSet : (signals : List ℕ) → (wishes : List (List ℕ)) → PlaceFault → Type 0
TellsKeptSet signals wishes (NoPlacement told places) =
    (set : List ℕ) × (IsKept wishes set places × (told.items ≡ map (λ k. get_or signals k 0) set))
TellsKeptSet signals wishes OutOfMemory = Unit {0}
