-- How it is reported that signals can't be placed (this project's report).
use Rattle.std.specs.Prelude.{ℕ, Option, None, List, [], ◌∷◌, ◌++◌, codes, slice_get, option_map}
use Rattle.reports.specs.Prelude.{decimal, Place, Entry}
use Rattle.reports.specs.RefusalTold.{line_head}
use Rattle.reports.specs.DesignTold.{names_text}

-- the declaration of the first of them
abbrev pub first_place : List Entry → (signals : List ℕ) → Option Place
first_place es [] = None
first_place es (s ∷ ss) = option_map (λ (e : Entry). e.place) (slice_get es s)

-- there, with all their names, and how many pins fit some of them
abbrev pub placing_text : List Entry → (signals : List ℕ) → (places : ℕ) → Option (List ℕ)
placing_text es signals places =
    option_map (λ p. line_head (codes "NoPlacement") p ++ (names_text es signals ++ (codes " places " ++ (decimal places ++ codes "\n"))))
    (first_place es signals)
