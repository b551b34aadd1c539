-- Where what a state diagram gives is (this project's rule).
use Rattle.std.specs.Prelude.{true, false, Some, List, [], ◌∷◌, ◌++◌, length, map}
use Rattle.state_diagrams.specs.Prelude.{Place, Formula, Const, Tree, statements_of, StateTree, Context, states_give, formulas, Aim, places_of, target_member, statements_places}
use Rattle.abel_meaning.specs.Contributions as meant
use Rattle.state_diagrams.specs.DiagramUnits.{signals_of}
use Rattle.state_diagrams.specs.Places.{branches_places}
use Rattle.state_diagrams.specs.Matches.{other_places, other_signal}

-- a state: the targets of its statements, and what its transitions give
abbrev pub state_places : Context → List Aim → StateTree → List Place
state_places d xs s = statements_places d (statements_of s.statements) ++ branches_places d xs s.transitions

abbrev pub states_places : Context → List Aim → List StateTree → List Place
states_places d xs [] = []
states_places d xs (s ∷ states) = state_places d xs s ++ states_places d xs states

-- what no block gives counts for no place
abbrev pub no_block : meant.Guard Formula
no_block = record { holds = Const true; dontcare = false; block = Some 0 }

-- states, then matches of other signals if each is first given data
abbrev pub others_places : Context → List Aim → List StateTree → List Place
others_places d xs states =
    states_places d xs states
    ++ other_places [] (length states)
    (map (other_signal (signals_of xs)) (states_give (formulas d) d no_block (signals_of xs) states)) (states_places d xs states)

-- registers at the header, then the states
abbrev pub aims_places : Context → List Aim → List StateTree → List Place
aims_places d xs states = places_of xs ++ others_places d xs states

abbrev pub diagram_places : Context → (registers : Tree) → List StateTree → List Place
diagram_places d registers states = aims_places d (target_member d registers).aims states
