-- The units of transitions and states to these registers with what they give, under a guard of formulas and after what was
-- assigned (ABEL-HDL Reference Manual, state diagrams).
use Rattle.std.specs.Prelude.{ℕ, true, false, Some, List, [], length, map}
use Rattle.state_diagrams.specs.Prelude.{Formula, Branch, Choices, StateTree, Context, branch_gives, branches_give, choices_give, in_state, is_state, state_gives, states_give, with_others, formulas, term_of, Aim, Manner, places_of, Work, given_freely}
use Rattle.abel_meaning.specs.Contributions as meant
use Rattle.abel_meaning.specs.Tables.{no_matches}
use Rattle.state_diagrams.specs.DiagramPlaces.{others_places, state_places, states_places}
use Rattle.state_diagrams.specs.DiagramUnits.{signals_of, state_guard, units_of_branch, units_of_branches, units_of_choices, units_of_state, units_of_states, units_within}
use Rattle.state_diagrams.specs.Places.{branch_places, branches_places, choices_places}
use Rattle.state_diagrams.specs.StateValues.{state_refused}

-- ---- transitions

abbrev pub branch_work : Context → meant.Guard Formula → List Aim → List Manner → Branch → Work
branch_work d h xs all b =
    record {
      units = units_of_branch d h.holds (length xs) all b;
      gives = branch_gives (formulas d) d h (signals_of xs) b;
      places = branch_places d xs b;
    }

abbrev pub branches_work : Context → meant.Guard Formula → List Aim → List Manner → List Branch → Work
branches_work d h xs all bs =
    record {
      units = units_of_branches d h.holds (length xs) all bs;
      gives = branches_give (formulas d) d h (signals_of xs) bs;
      places = branches_places d xs bs;
    }

abbrev pub choices_work : Context → meant.Guard Formula → List Aim → List Manner → Choices → Work
choices_work d h xs all cs =
    record {
      units = units_of_choices d h.holds (length xs) all cs;
      gives = choices_give (formulas d) d h (signals_of xs) cs;
      places = choices_places d xs cs;
    }

-- ---- states

-- what is in a state of these registers, under its guard
abbrev pub within_work : Context → meant.Guard Formula → List Aim → List Manner → StateTree → Work
within_work d h xs all s =
    record {
      units = units_within d h.holds (length xs) all s;
      gives = state_gives (formulas d) d (signals_of xs) s h;
      places = state_places d xs s;
    }

-- an outer guard, if this holds
abbrev pub where_holds : meant.Guard Formula → Formula → meant.Guard Formula
where_holds h f = record { holds = f; dontcare = h.dontcare; block = h.block }

-- a state after those that are listed
abbrev pub state_work : Context → meant.Guard Formula → List Aim → List Manner → (listed : List ℕ) → StateTree → Work
state_work d h xs all listed s =
    record {
      units = units_of_state d (signals_of xs) all (state_refused d (length (signals_of xs)) listed s) s (state_guard d (signals_of xs) s.value);
      gives = state_gives (formulas d) d (signals_of xs) s (in_state (formulas d) d h (signals_of xs) s);
      places = state_places d xs s;
    }

abbrev pub states_work : Context → meant.Guard Formula → List Aim → List Manner → (listed : List ℕ) → List StateTree → Work
states_work d h xs all listed states =
    record {
      units = units_of_states d (signals_of xs) all listed states;
      gives = states_give (formulas d) d h (signals_of xs) states;
      places = states_places d xs states;
    }

-- states, with the matches of other signals
abbrev pub others_work : Context → meant.Guard Formula → List Aim → List Manner → List StateTree → Work
others_work d h xs all states =
    record {
      units = units_of_states d (signals_of xs) all [] states;
      gives = with_others (formulas d) d h (signals_of xs) states (states_give (formulas d) d h (signals_of xs) states);
      places = others_places d xs states;
    }

-- no match for each register
abbrev pub header_work : Context → meant.Guard Formula → List Aim → Work
header_work d h xs = given_freely (no_matches (formulas d) d h false true (map Some (signals_of xs))) (places_of xs)

-- what holds in a state, and in each of several
abbrev pub state_bit : Context → List Aim → StateTree → Formula
state_bit d xs s = is_state (formulas d) d (signals_of xs) (term_of d.known s.value)

abbrev pub state_bits : Context → List Aim → List StateTree → List Formula
state_bits d xs states = map (λ (s : StateTree). state_bit d xs s) states
