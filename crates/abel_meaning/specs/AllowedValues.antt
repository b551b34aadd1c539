-- The values that a signal may have at a point, as sets (ABEL-HDL Reference Manual, equations and don't-care; how
-- contributions to a name are joined with those to its complement is this project's rule).
use Rattle.std.specs.Prelude.{ℕ, Bool, true, false, not, ◌&&◌, ◌||◌, if◌then◌else◌, List, [], ◌∷◌}
use Rattle.abel_meaning.specs.Prelude.{list_any, same_level, Levels, complement_if}
use Rattle.abel_meaning.specs.AtPoints.{truth_at, given_at}
use Rattle.abel_meaning.specs.Contributions.{Evaluator, One, Any, Contribution}
use Rattle.abel_meaning.specs.Designs.{Design}
use Rattle.abel_meaning.specs.Functions.{allows_plain, any_against, any_of, gives_in, gives_some, is_both, is_complement}

-- 1 and 0
abbrev pub both_levels : List Bool
both_levels = true ∷ false ∷ []

-- the value is `p or not n`, for some p of the one set and some n of the other
abbrev pub is_either_or_not : (ps ns : Bool → Bool) → Bool → Bool
is_either_or_not ps ns v = list_any (λ p. ps p && list_any (λ n. ns n && same_level v (p || not n)) both_levels) both_levels

-- the values of the name by the contributions to it
abbrev pub name_values : Evaluator Bool → List (Contribution Bool) → ℕ → Bool → Bool
name_values ev cs s = allows_plain (gives_in ev cs false One s) (gives_in ev cs false Any s)

-- the values of the complement by the contributions to it, which may be anything if no don't-care block matches
abbrev pub complement_values : Evaluator Bool → List (Contribution Bool) → ℕ → Bool → Bool
complement_values ev cs s = allows_plain (gives_in ev cs true One s) (any_against ev cs s)

-- the values of a signal whose contributions are of one polarity: of the name, or of the complement if they are to it
abbrev pub single_values : Evaluator Bool → List (Contribution Bool) → ℕ → Bool → Bool
single_values ev cs s v = allows_plain (gives_some ev cs One s) (any_of ev cs s) (complement_if (is_complement cs s) v)

-- the values of a signal: if it is assigned in both polarities, each `p or not n` with p of the name and n of the
-- complement
abbrev pub values_by : Evaluator Bool → List (Contribution Bool) → ℕ → Bool → Bool
values_by ev cs s v =
    if is_both cs s then is_either_or_not (name_values ev cs s) (complement_values ev cs s) v else single_values ev cs s v

-- those at a point
abbrev pub allowed_values : Design → Levels → ℕ → Bool → Bool
allowed_values d at s v = values_by (truth_at d.context at) (given_at d at) s v
