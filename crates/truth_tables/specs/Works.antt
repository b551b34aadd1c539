-- Private: units with what they give, and what is left by building them (this project's rule).
use Rattle.std.specs.Prelude.{List, [], ◌++◌}
use Rattle.truth_tables.specs.Prelude.{Place, Formula, IsBuilt, CountedUnit, StillStands, Walked}
use Rattle.abel_meaning.specs.Contributions as meant
use Rattle.set_expr.specs.declared.contributions.Contributions.{Contributions}

-- units, with what they give at which places
pub record Work : Type 0 where
  pub units : List CountedUnit
  pub gives : List (meant.Contribution Formula)
  pub places : List Place

-- one work before another
abbrev pub before : Work → Work → Work
before v w = record { units = v.units ++ w.units; gives = v.gives ++ w.gives; places = v.places ++ w.places }

abbrev pub nothing : Work
nothing = record { units = []; gives = []; places = [] }

-- what is given without nodes
abbrev pub given_freely : List (meant.Contribution Formula) → List Place → Work
given_freely gs ps = record { units = []; gives = gs; places = ps }

abbrev pub IsDone : Work → (old new : Contributions) → Type 0
IsDone w old new = IsBuilt w.units w.gives w.places old new

-- what is after a walk over a work, whatever the answer
abbrev pub StandsWork : Work → (old new : Walked) → Type 0
StandsWork w old new = StillStands w.gives w.places old new
