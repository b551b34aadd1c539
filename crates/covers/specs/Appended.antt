-- What a call appends to a pool (this project's rule).
use Rattle.std.specs.Prelude.{◌≡◌, ◌+◌, length, take}
use Rattle.covers.specs.declared.pool.Range.{Range}
use Rattle.covers.specs.Pool.{Pool}

-- the range is what is past the old cubes, and they are as before; it was taken from spare
pub record Appends (old new : Pool) (range : Range) : Type 0 where
  pub from : range.from ≡ length old.cubes
  pub to : range.to ≡ length new.cubes
  pub kept : take (length old.cubes) new.cubes ≡ old.cubes
  pub spare : new.spare + length new.cubes ≡ old.spare + length old.cubes
