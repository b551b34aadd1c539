-- What is asked of a design in the examples that are worked by hand. A set of values is a list: 0, 1, or both.
use Rattle.meaning_points.specs.Prelude.{String, list_any, range_with_len, Levels, Kind, APin, find, Tree, Context, Design, name_at, truth_at, given_at, function_of, allows, design_logic}
use Rattle.std.specs.Prelude.{ℕ, ◌==◌, Bool, true, false, unwrap_or, List, [], ◌∷◌, ◌++◌, map, codes}
use Rattle.pld_device.specs.Pins.{cell_on}
use Rattle.abel_meaning.specs.Terms.{term_of}
use Rattle.abel_meaning.specs.Values.{term_value}

-- ---- points

-- so many levels, 1 at these places
abbrev pub levels_at : (count : ℕ) → List ℕ → List Bool
levels_at count places = map (λ k. list_any (λ p. p == k) places) (range_with_len 0 count)

-- the point at which these pins, Qs of cells and nodes are 1
abbrev pub point_at : (pins q nodes : List ℕ) → Levels
point_at pins q nodes = record { pins = levels_at 32 pins; q = levels_at 32 q; nodes = levels_at 128 nodes }

-- all parts of a list: without its first entry, then with it
abbrev pub parts_of : List ℕ → List (List ℕ)
parts_of [] = [] ∷ []
parts_of (x ∷ xs) = both_parts x (parts_of xs)
  where
    both_parts : ℕ → List (List ℕ) → List (List ℕ)
    both_parts y parts = parts ++ map (λ part. y ∷ part) parts

-- the points at which some of these pins are 1, counted up with the first pin leftmost; these Qs and nodes are 1
abbrev pub points_of : (pins q nodes : List ℕ) → List Levels
points_of pins q nodes = map (λ part. point_at part q nodes) (parts_of pins)

-- ---- answers

-- the values that pass the test
abbrev pub values : (Bool → Bool) → List ℕ
values test = value_if (test false) 0 ++ value_if (test true) 1
  where
    value_if : Bool → ℕ → List ℕ
    value_if true n = n ∷ []
    value_if false n = []

-- the number of a name
abbrev pub number_named : Context → String → ℕ
number_named d name = unwrap_or (find d.names (codes name)) 0

-- the values that a name may have at the point
abbrev pub may_be : Design → String → Levels → List ℕ
may_be d name at = values (allows (function_of (truth_at d.context at) (given_at d at) (number_named d.context name)))

-- the cell of a name on a pin
abbrev pub cell_by : Context → Kind → ℕ
cell_by d (APin pin negated) = unwrap_or (cell_on d.device pin) 0
cell_by d _ = 0

-- the cell of a name
abbrev pub cell_named : Context → String → ℕ
cell_named d name = cell_by d (name_at d (number_named d name)).kind

-- the levels that its pin may have
abbrev pub pin_may_be : Design → String → Levels → List ℕ
pin_may_be d name at = values ((design_logic d).allows_level at (cell_named d.context name))

-- the next Qs that its register may take
abbrev pub next_may_be : Design → String → Levels → List ℕ
next_may_be d name at = values ((design_logic d).allows_next at (cell_named d.context name))

-- its cell drives the pin
abbrev pub is_driven : Design → String → Levels → Bool
is_driven d name at = (design_logic d).enabled at (cell_named d.context name)

-- its register is reset, and preset
abbrev pub is_reset : Design → String → Levels → Bool
is_reset d name at = (design_logic d).reset at (cell_named d.context name)

-- its register is preset
abbrev pub is_preset : Design → String → Levels → Bool
is_preset d name at = (design_logic d).preset at (cell_named d.context name)

-- the number of an expression at the point
abbrev pub number_of : Context → Tree → Levels → ℕ
number_of d t at = (term_value d at (term_of d.known t)).number

-- one answer for each point
abbrev pub at_each : {A : Type 0} → List Levels → (Levels → A) → List A
at_each points answer = map answer points
