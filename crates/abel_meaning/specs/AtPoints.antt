-- What a module contributes at a point (ABEL-HDL Reference Manual, equations).
use Rattle.std.specs.Prelude.{Bool, not, ◌&&◌, ◌||◌, List}
use Rattle.abel_meaning.specs.Prelude.{Levels}
use Rattle.abel_meaning.specs.Designs.{Context, Design}
use Rattle.abel_meaning.specs.Numbers.{digits, met}
use Rattle.abel_meaning.specs.Values.{term_value}
use Rattle.abel_meaning.specs.Contributions.{Evaluator, Contribution}
use Rattle.abel_meaning.specs.Sections.{contributions}

-- terms as truth values at the point
abbrev pub truth_at : Context → Levels → Evaluator Bool
truth_at d at =
    record {
      constant = λ b. b;
      not = not;
      both = λ a b. a && b;
      either = λ a b. a || b;
      word = λ w t. digits w (met w (term_value d at t));
    }

-- what is given at the point
abbrev pub given_at : Design → Levels → List (Contribution Bool)
given_at d at = contributions (truth_at d.context at) d
