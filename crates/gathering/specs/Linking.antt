-- Private: what is given to a signal that is read by others (this project's rule).
use Rattle.std.specs.Prelude.{ℕ}
use Rattle.gathering.specs.Prelude.{IsControlIn, IsFunctionIn}
use Rattle.gathering.specs.declared.signal.Totals.{Totals}

-- the ids of a function and an enable lie in an arena of that many formulas
pub record AreTotalsIn (count : ℕ) (totals : Totals) : Type 0 where
  pub function : IsFunctionIn count totals.function
  pub enable : IsControlIn count totals.controls.enable
