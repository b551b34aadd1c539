-- What is in the list of contributions after some were appended (this project's rule).
use Rattle.std.specs.Prelude.{◌≡◌, ℕ, ◌<◌, List, [], ◌++◌, All, length, map}
use Rattle.section_targets.specs.Prelude.{Place, arena, Grew, Formula, Contribution, Contributions, Keeps, view_contribution}
use Rattle.abel_meaning.specs.Contributions as meant

-- these contributions were appended, and what is given and at which places begins with them
pub record Appends (old new : Contributions) (given : List (meant.Contribution Formula)) (places : List Place)
    (more : List Contribution) (later : List (meant.Contribution Formula)) (later_places : List Place) : Type 0 where
  pub list : new.list ≡ old.list ++ more
  pub inside : All (λ (c : Contribution). c.when.0 < length (arena new.exprs)) more
  pub gives : given ≡ map (view_contribution (arena new.exprs)) more ++ later
  pub stand : places ≡ map (λ (c : Contribution). c.place) more ++ later_places

-- the nodes that were there are, and a front of what is given was appended
pub record Leaves (old new : Contributions) (given : List (meant.Contribution Formula)) (places : List Place) : Type 0 where
  pub keeps : Keeps (arena old.exprs) (arena new.exprs)
  pub more : List Contribution
  pub later : List (meant.Contribution Formula)
  pub later_places : List Place
  pub front : Appends old new given places more later later_places

-- just what is given was appended, with just its nodes
pub record Contributed (old new : Contributions) (given : List (meant.Contribution Formula)) (places : List Place)
    (nodes : ℕ) : Type 0 where
  pub grew : Grew (arena old.exprs) (arena new.exprs) nodes
  pub more : List Contribution
  pub whole : Appends old new given places more [] []
