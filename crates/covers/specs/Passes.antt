-- Rows at the end of a pool, between passes (reduce, expand and irredundant of two-level minimisation).
use Rattle.std.specs.Prelude.{ℕ, ◌≡◌, ◌⊎◌, ◌≤◌, ◌++◌, List, length, take, drop}
use Rattle.covers.specs.declared.cube.Cube.{Cube}
use Rattle.covers.specs.declared.pool.Range.{Range}
use Rattle.covers.specs.Cubes.{AllAskBelow}
use Rattle.covers.specs.Pool.{Pool, cubes_in}
use Rattle.covers.specs.Prime.{IsPrimeIrredundant}
use Rattle.covers.specs.declared.allowed.Allowed.{Allowed}
use Rattle.covers.specs.Off.{IsOff}

-- the lists are in the pool before a place, and from there on prime and irredundant rows between them
pub record HasRows (needed : Range) (allowed : Allowed) (vars from : ℕ) (pool : Pool) : Type 0 where
  pub within : from ≤ length pool.cubes
  pub needed_order : needed.from ≤ needed.to
  pub needed_within : needed.to ≤ from
  pub allowed_order : allowed.range.from ≤ allowed.range.to
  pub allowed_within : allowed.range.to ≤ from
  pub needed_below : AllAskBelow vars (cubes_in pool needed)
  pub allowed_below : AllAskBelow vars (cubes_in pool allowed.range)
  pub off : IsOff (cubes_in pool allowed.range) vars allowed.off
  pub below : AllAskBelow vars (drop from pool.cubes)
  pub rows : IsPrimeIrredundant (cubes_in pool needed) (cubes_in pool allowed.range) vars (drop from pool.cubes)

-- those from the first place on are as before, or those from the second on are in their place
abbrev pub KeepsFewer : (first second : ℕ) → List Cube → List Cube → Type 0
KeepsFewer first second old new = (new ≡ take second old) ⊎ ((new ≡ take first old ++ drop second old) × (length new ≤ second))
