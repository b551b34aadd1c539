-- What turned cubes and the two lists of a function are true at (this project's rule).
use Rattle.std.specs.Prelude.{◌≡◌, ℕ, zero, suc, ◌<◌, ◌≤◌, ◌^◌, ◌==◌, Bool, not, if◌then◌else◌, List, [], ◌∷◌, length}
use Rattle.fit_plans.specs.Prelude.{bit_at, Function, Netlist, Cube, AsksBelow, has_point}
use Rattle.pld_base.specs.Points.{Levels}
use Rattle.sop_lowering.specs.Values.{Carries}
use Rattle.fit_plans.specs.Columns.{turned}
use Rattle.fit_plans.specs.Covering.{AreInside}
use Rattle.fit_plans.specs.Tries.{allowed_of, needed_of, one_or_any}

-- the levels from variable v on, complemented at the variables of the mask
abbrev pub levels_turned : (mask v : ℕ) → List Bool → List Bool
levels_turned mask v [] = []
levels_turned mask v (level ∷ levels) =
    (if bit_at mask v == 1 then not level else level) ∷ levels_turned mask (suc v) levels

-- a turned cube has a point just if the cube has the turned point
abbrev pub TurnedPoints : Type 0
TurnedPoints =
    (mask : ℕ) (c : Cube) (pairs : List Bool) → mask < 2 ^ 32 → length pairs ≤ 32
    → has_point (turned mask c) pairs ≡ has_point c (levels_turned mask 0 pairs)

-- at some point the pairs carry these levels to all that the function reaches
pub record IsCarried (net : Netlist) (f : Function) (pairs : List Bool) : Type 0 where
  pub at : Levels
  pub carries : Carries net at pairs (one_or_any net f)

-- if all levels are carried, each needed point of a function's lists is allowed, over the pairs' columns too
abbrev pub ListsInside : Type 0
ListsInside =
    (net : Netlist) (f : Function) (vars mask : ℕ) (positive : Bool) → vars ≤ 32 → mask < 2 ^ 32
    → ((pairs : List Bool) → length pairs ≡ vars → IsCarried net f pairs)
    → AreInside vars mask (needed_of net f positive) (allowed_of net f positive)
