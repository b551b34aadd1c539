-- The order of what is refused, and the first use that is (this project's rule).
use Rattle.std.specs.Prelude.{ℕ, Bool, true, false, Option, None, Some, List, [], ◌∷◌, map}
use Rattle.design_checks.specs.Prelude.{Place, Ranks, first_refusal}
use Rattle.design_checks.specs.LocatedUses.{PlacedUse}
use Rattle.design_checks.specs.declared.refused.RefusedUse.{RefusedUse}

-- refusals of one kind are in the order of place; where several are at one place, the first of the
-- list occurs
abbrev pub use_order : Ranks RefusedUse
use_order = record { place = λ r. r.place; rank = λ r. 0 }

-- a place that is refused or not
abbrev pub told_if : Bool → RefusedUse → List RefusedUse
told_if true r = r ∷ []
told_if false r = []

-- the use of a signal at a place, if there is one
abbrev pub use_at : Place → Option ℕ → Option RefusedUse
use_at p None = None
use_at p (Some s) = Some (record { place = p; name = s })

-- a use as it is reported
abbrev pub told : PlacedUse → RefusedUse
told u = record { place = u.place; name = u.read.signal }

-- the first of several uses
abbrev pub first_use : List PlacedUse → Option RefusedUse
first_use us = first_refusal use_order (map told us)
