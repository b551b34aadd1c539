-- Which polarity a cell takes (this project's rule).
use Rattle.std.specs.Prelude.{◌≡◌, ℕ, ◌≤◌, true, false, Option, Some, None, length, Result, Ok, Err}
use Rattle.fit_plans.specs.Prelude.{Vec, Cube}
use Rattle.fit_plans.specs.declared.choosing.Chosen.{Chosen}
use Rattle.fit_plans.specs.declared.choosing.Tried.{Tried}

-- the cover fits the room
abbrev pub FitsRoom : ℕ → Option (Vec Cube) → Type 0
FitsRoom room None = ⊥
FitsRoom room (Some rows) = length rows.items ≤ room

-- the direct cover if it fits, else the inverted one if this fits; else the covers that were tried
abbrev pub Chooses : ℕ → Option (Vec Cube) → Option (Vec Cube) → Result Chosen Tried → Type 0
Chooses room direct inverted (Ok chosen) =
    (length chosen.rows.items ≤ room)
    × (chosen.inverted ≡ false → direct ≡ Some chosen.rows)
    × (chosen.inverted ≡ true → (FitsRoom room direct → ⊥) × (inverted ≡ Some chosen.rows))
Chooses room direct inverted (Err tried) =
    (tried.direct ≡ direct)
    × (tried.inverted ≡ inverted)
    × (FitsRoom room direct → ⊥)
    × (FitsRoom room inverted → ⊥)
