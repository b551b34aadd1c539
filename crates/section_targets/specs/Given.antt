-- The signals of targets by their numbers, and bits by their places in an arena.
use Rattle.std.specs.Prelude.{ℕ, ◌<◌, List, All, map}
use Rattle.section_targets.specs.Prelude.{Place, ExprId}
use Rattle.section_targets.specs.declared.aim.Aim.{Aim}

-- the places at which the signals are named
abbrev pub places_of : List Aim → List Place
places_of aims = map (λ (a : Aim). a.place) aims

-- each is one of so many names
abbrev pub AreNamed : (count : ℕ) → List Aim → Type 0
AreNamed count aims = All (λ (a : Aim). a.signal < count) aims

-- each lies in an arena of so many formulas
abbrev pub AreIn : (count : ℕ) → List ExprId → Type 0
AreIn count ids = All (λ (id : ExprId). id.0 < count) ids
