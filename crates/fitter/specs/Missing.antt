-- Points at which two covers differ. A number says a point: bit v is the level of variable v (this project's rule).
use Rattle.std.specs.Prelude.{◌≡◌, ◌≢◌, ℕ, ◌<◌, ◌^◌, true, false, List, Option, None, Some}
use Rattle.fitter.specs.Prelude.{bits, Cube, covers, CoversList}

-- the point is in the first cover and not in the second
pub record IsMissed (rows cover : List Cube) (vars point : ℕ) : Type 0 where
  pub low : point < 2 ^ vars
  pub here : covers rows (bits vars point) ≡ true
  pub missed : covers cover (bits vars point) ≡ false

-- such a point; none if the second cover has all points of the first
abbrev pub FindsMissed : List Cube → List Cube → ℕ → Option ℕ → Type 0
FindsMissed rows cover vars None = CoversList cover rows vars
FindsMissed rows cover vars (Some point) = IsMissed rows cover vars point

-- the covers differ at the point
pub record IsApart (first second : List Cube) (vars point : ℕ) : Type 0 where
  pub low : point < 2 ^ vars
  pub differ : covers first (bits vars point) ≢ covers second (bits vars point)

-- a point at which they differ; none if each has all points of the other
abbrev pub FindsApart : List Cube → List Cube → ℕ → Option ℕ → Type 0
FindsApart first second vars None = CoversList second first vars × CoversList first second vars
FindsApart first second vars (Some point) = IsApart first second vars point
