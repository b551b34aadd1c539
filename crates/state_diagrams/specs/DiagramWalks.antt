-- What a walk over a state diagram leaves (ABEL-HDL Reference Manual, state diagrams).
use Rattle.std.specs.Prelude.{◌≡◌, ℕ, None, List, [], ◌∷◌, length, map}
use Rattle.state_diagrams.specs.Prelude.{Place, Table, ExprId, arena, formula_at, Formula, Goal, Names, Branch, Choices, StateTree, view, view_state, Context, diagram_gives, formulas, term_of, Guard, expression_found, view_guard, Manner, Walked, context_for, AreFirsts, target_member, CountedUnit, value_refused, Work}
use Rattle.abel_tree.specs.declared.diagrams.Diagram.{Diagram}
use Rattle.abel_meaning.specs.Contributions as meant
use Rattle.section_targets.specs.Walking.{Walks}
use Rattle.state_diagrams.specs.declared.machine.Machine.{Machine}
use Rattle.state_diagrams.specs.ArmGuards.{case_unit}
use Rattle.state_diagrams.specs.DiagramPlaces.{diagram_places}
use Rattle.state_diagrams.specs.DiagramUnits.{branch_manners, branches_manners, choices_manners, diagram_manners, signals_of, state_guard, state_manners, states_manners, units_of_diagram}
use Rattle.state_diagrams.specs.DiagramWorks.{branch_work, branches_work, choices_work, header_work, others_work, states_work, within_work}
use Rattle.state_diagrams.specs.Goals.{goal_unit}
use Rattle.state_diagrams.specs.StateValues.{state_refused}

-- the context of a machine
abbrev pub context_of_machine : {D : Type 0} → Table → Machine D → Context
context_of_machine t m = context_for t m.scope.now

-- units with what they give, after all that assigned signals before
abbrev pub WalksWork : List Manner → Work → List Manner → (old new : Walked) → Type 0
WalksWork all w ms old new = Walks all w.units w.gives w.places ms old new

-- a guard represents this one, if nothing is refused so far
abbrev pub StandsFor : Guard → Walked → meant.Guard Formula → Type 0
StandsFor g old h = old.fault ≡ None → view_guard (arena old.exprs) g ≡ h

-- work under any guard that this one represents, after all that assigned signals before
abbrev pub WalksUnder : Guard → (meant.Guard Formula → List Manner → Work) → List Manner → (old new : Walked) → Type 0
WalksUnder g work ms old new =
    (h : meant.Guard Formula) → StandsFor g old h
    → (all : List Manner) → AreFirsts old.before all → WalksWork all (work h all) ms old new

-- ---- transitions

-- a goal without the statements after it
abbrev pub WalksValue : {D : Type 0} → Table → Machine D → Guard → Goal → (old new : Walked) → Type 0
WalksValue t m g x old new =
    (all : List Manner) → AreFirsts old.before all
    → WalksWork all
    (goal_unit (context_of_machine t m) (view_guard (arena old.exprs) g) m.registers.now x
    (value_refused x.place (length m.registers.now) (expression_found (context_of_machine t m).names (view x.value))))
    [] old new

-- the conditions of CASE as a unit at its place
abbrev pub WalksConditions : Table → Names → (guard : ExprId) → Place → Choices → (old new : Walked) → Type 0
WalksConditions t n g p cs old new =
    (all : List Manner) → AreFirsts old.before all
    → Walks all (case_unit (context_for t n) (formula_at (arena old.exprs) g) p cs ∷ []) [] [] [] old new

abbrev pub WalksBranch : {D : Type 0} → Table → Machine D → Guard → Branch → (old new : Walked) → Type 0
WalksBranch t m g b old new =
    WalksUnder g (λ h all. branch_work (context_of_machine t m) h m.registers.now all b)
    (branch_manners (context_of_machine t m) b) old new

-- the arms of CASE without their conditions
abbrev pub WalksChoices : {D : Type 0} → Table → Machine D → Guard → Choices → (old new : Walked) → Type 0
WalksChoices t m g cs old new =
    WalksUnder g (λ h all. choices_work (context_of_machine t m) h m.registers.now all cs)
    (choices_manners (context_of_machine t m) cs) old new

abbrev pub WalksBranches : {D : Type 0} → Table → Machine D → Guard → List Branch → (old new : Walked) → Type 0
WalksBranches t m g bs old new =
    WalksUnder g (λ h all. branches_work (context_of_machine t m) h m.registers.now all bs)
    (branches_manners (context_of_machine t m) bs) old new

-- ---- states

-- a state's own unit
abbrev pub state_unit : Context → List ℕ → (listed : List ℕ) → StateTree → CountedUnit
state_unit d ss listed s =
    record { place = s.place; refusals = state_refused d (length ss) listed s; nodes = (state_guard d ss s.value).nodes }

abbrev pub WalksUnit : {D : Type 0} → Table → Machine D → (listed : List ℕ) → StateTree → (old new : Walked) → Type 0
WalksUnit t m listed s old new =
    (all : List Manner) → AreFirsts old.before all
    → Walks all (state_unit (context_of_machine t m) (signals_of m.registers.now) listed s ∷ []) [] [] [] old new

-- what is in a state, under its guard
abbrev pub WalksWithin : {D : Type 0} → Table → Machine D → Guard → StateTree → (old new : Walked) → Type 0
WalksWithin t m g s old new =
    WalksUnder g (λ h all. within_work (context_of_machine t m) h m.registers.now all s)
    (state_manners (context_of_machine t m) s) old new

-- work under any guard with the block of this one
abbrev pub WalksBlock : Guard → (meant.Guard Formula → List Manner → Work) → List Manner → (old new : Walked) → Type 0
WalksBlock g work ms old new =
    (h : meant.Guard Formula) → h.dontcare ≡ g.dontcare → h.block ≡ g.block
    → (all : List Manner) → AreFirsts old.before all → WalksWork all (work h all) ms old new

-- states after those that are listed
abbrev pub WalksStates : {D : Type 0} → Table → Machine D → Guard → (listed : List ℕ) → List StateTree → (old new : Walked) → Type 0
WalksStates t m g listed states old new =
    WalksBlock g (λ h all. states_work (context_of_machine t m) h m.registers.now all listed states)
    (states_manners (context_of_machine t m) states) old new

-- ---- diagrams

-- no match for each register
abbrev pub WalksHeader : {D : Type 0} → Table → Machine D → Guard → (old new : Walked) → Type 0
WalksHeader t m g old new =
    (all : List Manner) → AreFirsts old.before all
    → WalksWork all (header_work (context_of_machine t m) (view_guard (arena old.exprs) g) m.registers.now) [] old new

-- states with the matches of signals that are no registers
abbrev pub WalksOthers : {D : Type 0} → Table → Machine D → Guard → List StateTree → (old new : Walked) → Type 0
WalksOthers t m g states old new =
    WalksBlock g (λ h all. others_work (context_of_machine t m) h m.registers.now all states)
    (states_manners (context_of_machine t m) states) old new

-- the units of a diagram after what was assigned before
abbrev pub units_of : Context → (before : List Manner) → Diagram → List CountedUnit
units_of d before x = units_of_diagram d before x.place (view x.registers) (map view_state x.states)

-- what a diagram gives under a guard over these formulas
abbrev pub given_by : Context → Guard → Diagram → List Formula → List (meant.Contribution Formula)
given_by d g x fs = diagram_gives (formulas d) d (view_guard fs g) (term_of d.known (view x.registers)) (map view_state x.states)

-- at which places
abbrev pub places_by : Context → Diagram → List Place
places_by d x = diagram_places d (view x.registers) (map view_state x.states)

-- a diagram after what was walked before
abbrev pub WalksDiagram : Table → Names → Guard → Diagram → (old new : Walked) → Type 0
WalksDiagram t n g x old new =
    (all : List Manner) → AreFirsts old.before all
    → Walks all (units_of (context_for t n) all x) (given_by (context_for t n) g x (arena old.exprs))
    (places_by (context_for t n) x)
    (diagram_manners (context_for t n) all (target_member (context_for t n) (view x.registers)) (map view_state x.states))
    old new
