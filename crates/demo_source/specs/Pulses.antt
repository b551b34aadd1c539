-- How the vectors' points and lines follow one another. These are private helpers: no public clause cites them.
use Rattle.std.specs.Prelude.{◌≡◌, ℕ, Bool, true, false, Option, None, Some, List, [], ◌∷◌, flat_map}
use Rattle.pld_base.specs.Points.{Levels}
use Rattle.pld_base.specs.Logic.{Logic}
use Rattle.pld_machine.specs.Rest.{AtRest}
use Rattle.pld_machine.specs.Steps.{Step, power_up}
use Rattle.demo_source.specs.Machine.{outside, pulse}
use Rattle.demo_source.specs.SourceText.{vectors_text}

-- the next point: at rest from power-up, or after a step
abbrev pub Comes : Logic → Option Levels → List Bool → Levels → Type 0
Comes m None levels at = AtRest m levels power_up at
Comes m (Some before) levels at = Step m before levels at

-- points that follow one another
abbrev pub Come : Logic → Option Levels → List (List Bool) → List Levels → Type 0
Come m before [] [] = Unit {0}
Come m before (levels ∷ rest) (at ∷ points) = Comes m before levels at × Come m (Some at) rest points
Come m before [] (at ∷ points) = ⊥
Come m before (levels ∷ rest) [] = ⊥

-- the last of the three points of a pulse
pub record IsPulsed (m : Logic) (before : Option Levels) (inputs : List Bool) (back : Levels) : Type 0 where
  pub first : Levels
  pub turned : Levels
  pub comes : Comes m before (outside false inputs) first
  pub turns : Step m first (outside true inputs) turned
  pub turns_back : Step m turned (outside false inputs) back

-- the lines of these vectors, after the point that there may be
pub record AreLines (m : Logic) (before : Option Levels) (inputs : List (List Bool)) (lines : List ℕ) : Type 0 where
  pub points : List Levels
  pub come : Come m before (flat_map pulse inputs) points
  pub spells : lines ≡ vectors_text inputs points
