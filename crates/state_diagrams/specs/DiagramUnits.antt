-- The units of a state diagram, with what is refused of each and the nodes that it makes (ABEL-HDL Reference Manual, state
-- diagrams; units are this project's rule).
use Rattle.std.specs.Prelude.{ℕ, true, false, None, List, [], ◌∷◌, ◌++◌, length, map}
use Rattle.state_diagrams.specs.Prelude.{Place, Made, Formula, Const, Tree, statements_of, Branch, AGoal, AnIf, ACase, OtherBranch, NoBranch, ABranch, Choices, NoChoice, MoreChoices, StateTree, register_literals, choices_nodes, has_other, value_nodes, choice_nodes, condition_of, guard_then, guard_else, Context, with_statements, digits, SectionFault, expression_found, Aim, Manner, manner_of, aims_refused, TargetFound, target_member, CountedUnit, value_refused, assigned_aims, condition_refused, statements_manners, units_of_statements}
use Rattle.state_diagrams.specs.StateValues.{listed_after, state_number, state_refused}
use Rattle.truth_tables.specs.TableUnits.{if_none}

-- ---- the header

-- the registers are targets on the clock, after what was assigned before
abbrev pub registers_refused : Context → List Manner → TargetFound → List SectionFault
registers_refused d before t = if_none t.refusals (aims_refused d before None false true t.aims)

-- registers that are no targets are assigned nothing
abbrev pub register_manners : TargetFound → List Manner
register_manners t = map (manner_of None false true) (assigned_aims t)

abbrev pub signals_of : List Aim → List ℕ
signals_of aims = map (λ (a : Aim). a.signal) aims

-- ---- transitions

-- how the statements of transitions assign signals, in order
abbrev mutual
  pub branch_manners : Context → Branch → List Manner
  branch_manners d (AGoal p value ss) = statements_manners d (with_statements ss)
  branch_manners d (AnIf p c b other) = branch_manners d b ++ other_manners d other
  branch_manners d (ACase p cs) = choices_manners d cs

  pub other_manners : Context → OtherBranch → List Manner
  other_manners d NoBranch = []
  other_manners d (ABranch b) = branch_manners d b

  pub choices_manners : Context → Choices → List Manner
  choices_manners d NoChoice = []
  choices_manners d (MoreChoices c colon b cs) = branch_manners d b ++ choices_manners d cs

abbrev pub branches_manners : Context → List Branch → List Manner
branches_manners d [] = []
branches_manners d (b ∷ bs) = branch_manners d b ++ branches_manners d bs

-- the conditions of a CASE, each at its colon
abbrev pub choices_refused : Context → Choices → List SectionFault
choices_refused d NoChoice = []
choices_refused d (MoreChoices c colon b cs) = condition_refused d colon c ++ choices_refused d cs

-- the units of transitions to n registers, under a guard and after what was assigned before
abbrev mutual
  pub units_of_branch : Context → (guard : Formula) → (n : ℕ) → List Manner → Branch → List CountedUnit
  units_of_branch d g n before (AGoal p value ss) =
      record { place = p; refusals = value_refused p n (expression_found d.names value); nodes = value_nodes d g n value }
      ∷ units_of_statements d g before (with_statements ss)
  units_of_branch d g n before (AnIf p c b other) =
      record { place = p; refusals = condition_refused d p c; nodes = choice_nodes d g c (has_other other) }
      ∷ units_of_branch d (guard_then g (condition_of d c)).what n before b
      ++ units_of_other d (guard_else g (condition_of d c)).what n (before ++ branch_manners d b) other
  units_of_branch d g n before (ACase p cs) =
      record { place = p; refusals = choices_refused d cs; nodes = choices_nodes d g cs } ∷ units_of_choices d g n before cs

  pub units_of_other : Context → (guard : Formula) → (n : ℕ) → List Manner → OtherBranch → List CountedUnit
  units_of_other d g n before NoBranch = []
  units_of_other d g n before (ABranch b) = units_of_branch d g n before b

  pub units_of_choices : Context → (guard : Formula) → (n : ℕ) → List Manner → Choices → List CountedUnit
  units_of_choices d g n before NoChoice = []
  units_of_choices d g n before (MoreChoices c colon b cs) =
      units_of_branch d (guard_then g (condition_of d c)).what n before b
      ++ units_of_choices d g n (before ++ branch_manners d b) cs

abbrev pub units_of_branches : Context → (guard : Formula) → (n : ℕ) → List Manner → List Branch → List CountedUnit
units_of_branches d g n before [] = []
units_of_branches d g n before (b ∷ bs) =
    units_of_branch d g n before b ++ units_of_branches d g n (before ++ branch_manners d b) bs

-- ---- states and diagrams

-- the guard of a state, with its nodes
abbrev pub state_guard : Context → List ℕ → Tree → Made Formula
state_guard d ss v = register_literals d (Const true) ss (digits (length ss) (state_number d v))

-- how a state's statements and transitions assign signals
abbrev pub state_manners : Context → StateTree → List Manner
state_manners d s = statements_manners d (statements_of s.statements) ++ branches_manners d s.transitions

-- what is in a state, under its guard
abbrev pub units_within : Context → (guard : Formula) → (n : ℕ) → List Manner → StateTree → List CountedUnit
units_within d g n before s =
    units_of_statements d g before (statements_of s.statements)
    ++ units_of_branches d g n (before ++ statements_manners d (statements_of s.statements)) s.transitions

abbrev pub units_of_state : Context → List ℕ → List Manner → (refusals : List SectionFault) → StateTree → Made Formula
    → List CountedUnit
units_of_state d ss before refusals s guard =
    record { place = s.place; refusals = refusals; nodes = guard.nodes } ∷ units_within d guard.what (length ss) before s

-- states after those that are listed before
abbrev pub units_of_states : Context → List ℕ → List Manner → (listed : List ℕ) → List StateTree → List CountedUnit
units_of_states d ss before listed [] = []
units_of_states d ss before listed (s ∷ states) =
    units_of_state d ss before (state_refused d (length ss) listed s) s (state_guard d ss s.value)
    ++ units_of_states d ss (before ++ state_manners d s) (listed_after d (length ss) listed s) states

-- how states assign signals
abbrev pub states_manners : Context → List StateTree → List Manner
states_manners d [] = []
states_manners d (s ∷ states) = state_manners d s ++ states_manners d states

-- states represent no registers that are refused
abbrev pub units_behind : List SectionFault → Place → List CountedUnit → List CountedUnit
units_behind [] p us = us
units_behind (r ∷ rs) p us = record { place = p; refusals = r ∷ rs; nodes = 0 } ∷ []

abbrev pub units_for : Context → List Manner → Place → TargetFound → List StateTree → List CountedUnit
units_for d before p t states =
    units_behind (registers_refused d before t) p
    (units_of_states d (signals_of t.aims) (before ++ register_manners t) [] states)

-- the units of a diagram at this place, after what was assigned before
abbrev pub units_of_diagram : Context → List Manner → Place → (registers : Tree) → List StateTree → List CountedUnit
units_of_diagram d before p registers states = units_for d before p (target_member d registers) states

-- how a diagram of these registers assigns signals, after what was assigned before
abbrev pub manners_behind : List SectionFault → List Manner → List Manner
manners_behind [] ms = ms
manners_behind (r ∷ rs) ms = []

abbrev pub diagram_manners : Context → List Manner → TargetFound → List StateTree → List Manner
diagram_manners d before t states =
    register_manners t ++ manners_behind (registers_refused d before t) (states_manners d states)
