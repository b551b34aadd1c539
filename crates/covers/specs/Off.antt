-- Off cubes: cubes without an allowed point (the off-set of two-level minimisation).
use Rattle.std.specs.Prelude.{ℕ, ◌≡◌, ◌+◌, ◌-◌, ◌*◌, ◌≤◌, ◌++◌, true, false, List, length, slice_range, take, All}
use Rattle.std.specs.List.{list_any}
use Rattle.covers.specs.declared.cube.Cube.{Cube}
use Rattle.covers.specs.declared.pool.Range.{Range}
use Rattle.covers.specs.Covers.{CoversAll}
use Rattle.covers.specs.Cubes.{AllAskBelow, meets}
use Rattle.covers.specs.Pool.{LiesIn, Pool, cubes_in}
use Rattle.covers.specs.declared.off.OffCubes.{OffCubes}

-- those that were found
abbrev pub off_list : OffCubes → List Cube
off_list off = take off.count off.cubes

-- the cube meets none of the list
abbrev pub IsApart : List Cube → Cube → Type 0
IsApart cubes c = list_any (meets c) cubes ≡ false

-- no off cube meets an allowed one, and if they are complete, each point is in the ones or the others
pub record IsOff (allowed : List Cube) (vars : ℕ) (off : OffCubes) : Type 0 where
  pub count : off.count ≤ 64
  pub apart : All (IsApart allowed) (off_list off)
  pub below : AllAskBelow vars (off_list off)
  pub complete : off.complete ≡ true → CoversAll (allowed ++ off_list off) vars

-- the off cubes that were found are in the pool after the allowed ones, and there is room for all that may occur
pub record HasFound (vars : ℕ) (allowed : Range) (off : OffCubes) (pool : Pool) : Type 0 where
  pub within : LiesIn pool allowed
  pub behind : slice_range pool.cubes allowed.from (length pool.cubes) ≡ cubes_in pool allowed ++ off_list off
  pub room : 24 * (allowed.to - allowed.from) + 1632 ≤ pool.spare + off.count
  pub is : IsOff (cubes_in pool allowed) vars off
