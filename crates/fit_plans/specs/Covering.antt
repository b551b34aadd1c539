-- Covers between two written lists, over the pairs' columns (two-level minimisation; the lists are this project's rule).
use Rattle.std.specs.Prelude.{◌≡◌, ◌⊎◌, ℕ, ◌≤◌, Option, Some, None, List, length}
use Rattle.fit_plans.specs.Prelude.{Vec, Cube, AllAskBelow, IsPrimeIrredundant, Products}
use Rattle.covers.specs.Covers.{CoversList}
use Rattle.fit_plans.specs.Columns.{all_turned}

-- the lists ask no variable from `vars` on, and every needed point is allowed
pub record IsInside (vars : ℕ) (needs allows : List Cube) : Type 0 where
  pub needed_below : AllAskBelow vars needs
  pub allowed_below : AllAskBelow vars allows
  pub inside : CoversList allows needs vars

-- so are the two lists, turned, if there are both
abbrev pub AreInside : (vars mask : ℕ) → (needed allowed : Products) → Type 0
AreInside vars mask needed allowed =
    (needs allows : List Cube) → needed ≡ Some needs → allowed ≡ Some allows → IsInside vars (all_turned mask needs) (all_turned mask allows)

-- prime and irredundant rows between the lists of a function, no more than needed products
pub record IsCoverBetween (vars mask : ℕ) (needed allowed : Products) (rows : List Cube) : Type 0 where
  pub needs : List Cube
  pub allows : List Cube
  pub needs_is : needed ≡ Some needs
  pub allows_is : allowed ≡ Some allows
  pub prime : IsPrimeIrredundant (all_turned mask needs) (all_turned mask allows) vars rows
  pub few : length rows ≤ length needs

-- a polarity that was tried has such rows; it isn't tried if there is no list
abbrev pub IsTried : (vars mask : ℕ) → (needed allowed : Products) → Option (Vec Cube) → Type 0
IsTried vars mask needed allowed None = (needed ≡ None) ⊎ (allowed ≡ None)
IsTried vars mask needed allowed (Some rows) = IsCoverBetween vars mask needed allowed rows.items
