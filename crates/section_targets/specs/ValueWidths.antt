-- What is refused of a value that meets so many signals (ABEL-HDL Reference Manual, equations and sets).
use Rattle.std.specs.Prelude.{ℕ, ◌==◌, Option, None, Some, List, [], ◌∷◌, ◌++◌, if◌then◌else◌}
use Rattle.section_targets.specs.Prelude.{Place, Shape, Set, Value, SectionFault, BadWidth, Found}

-- a set meets a target of as many signals; a number is cut or filled, and one bit is spread
abbrev pub wrong_width : Place → ℕ → Shape → List SectionFault
wrong_width p n (Set w) = if w == n then [] else BadWidth p ∷ []
wrong_width p n _ = []

abbrev pub value_width : Place → ℕ → Option Value → List SectionFault
value_width p n None = []
value_width p n (Some v) = wrong_width p n v.shape

-- no X position may be in an assigned value or in a condition, whose width must meet
abbrev pub value_refused : Place → ℕ → Found → List SectionFault
value_refused p n f = f.refusals ++ (f.specials ++ value_width p n f.value)
