-- What is left by giving registers a goal (ABEL-HDL Reference Manual, state diagrams).
use Rattle.std.specs.Prelude.{◌≡◌, List, [], ◌∷◌, length, Result}
use Rattle.state_diagrams.specs.Prelude.{Place, Table, ExprId, arena, formula_at, make_and, Formula, Goal, Names, entries_of, view, value_nodes, Context, goal_gives, formulas, term_of, Guard, SectionFault, view_guard, Aim, Walked, context_for, CountedUnit, part, Work}
use Rattle.abel_meaning.specs.Contributions as meant
use Rattle.state_diagrams.specs.declared.goals.GoalUnit.{GoalUnit}
use Rattle.state_diagrams.specs.declared.machine.Machine.{Machine}
use Rattle.state_diagrams.specs.DiagramUnits.{signals_of}
use Rattle.truth_tables.specs.Rows.{Does}
use Rattle.state_diagrams.specs.Places.{goal_places}

-- the parts of the unit at a place that give registers their bits, from the left
abbrev pub goal_parts : Place → (guard : Formula) → List Aim → List Formula → List CountedUnit
goal_parts p g [] ws = []
goal_parts p g (a ∷ aims) [] = []
goal_parts p g (a ∷ aims) (w ∷ ws) = part p (make_and g w).nodes ∷ goal_parts p g aims ws

-- what they give, with just these parts
abbrev pub goal_work : Context → meant.Guard Formula → Place → List Aim → List Formula → Work
goal_work d h p aims ws =
    record { units = goal_parts p h.holds aims ws; gives = goal_gives (formulas d) d h (signals_of aims) ws; places = goal_places aims }

abbrev pub GivesRegister : Names → GoalUnit → Aim → ExprId → (old new : Walked) → Result Unit SectionFault → Type 0
GivesRegister n u a id old new r =
    (d : Context) → d.names ≡ entries_of n
    → Does (goal_work d (view_guard (arena old.exprs) u.guard) u.place (a ∷ []) (formula_at (arena old.exprs) id ∷ []))
    old.exprs new.exprs old.list.items new.list.items r

-- a goal as a unit with these refusals
abbrev pub goal_unit : Context → meant.Guard Formula → List Aim → Goal → List SectionFault → Work
goal_unit d h aims g rs =
    record {
      units = record { place = g.place; refusals = rs; nodes = value_nodes d h.holds (length aims) (view g.value) } ∷ [];
      gives = goal_gives (formulas d) d h (signals_of aims) ((formulas d).word (length (signals_of aims)) (term_of d.known (view g.value)));
      places = goal_places aims;
    }

abbrev pub GivesGoal : {D : Type 0} → Table → Machine D → Guard → Goal → (old new : Walked) → Result Unit SectionFault → Type 0
GivesGoal t m g x old new r =
    Does (goal_unit (context_for t m.scope.now) (view_guard (arena old.exprs) g) m.registers.now x []) old.exprs new.exprs old.list.items new.list.items r
