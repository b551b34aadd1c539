-- What is after a walk over a state diagram, whatever the answer (this project's rule).
use Rattle.std.specs.Prelude.{◌≡◌, List, [], map}
use Rattle.state_diagrams.specs.Prelude.{Table, arena, Formula, Goal, Names, Branch, Choices, StateTree, Guard, view_guard, StillStands, Walked, context_for, Work}
use Rattle.abel_tree.specs.declared.diagrams.Diagram.{Diagram}
use Rattle.abel_meaning.specs.Contributions as meant
use Rattle.truth_tables.specs.Works.{StandsWork}
use Rattle.state_diagrams.specs.declared.machine.Machine.{Machine}
use Rattle.state_diagrams.specs.DiagramWalks.{StandsFor, context_of_machine, given_by, places_by}
use Rattle.state_diagrams.specs.DiagramWorks.{branch_work, branches_work, choices_work, header_work, others_work, states_work}
use Rattle.state_diagrams.specs.Goals.{goal_unit}

-- work under any guard that this one represents
abbrev pub StandsUnder : Guard → (meant.Guard Formula → Work) → (old new : Walked) → Type 0
StandsUnder g work old new = (h : meant.Guard Formula) → StandsFor g old h → StandsWork (work h) old new

-- ---- transitions

-- a goal without the statements after it
abbrev pub StandsValue : {D : Type 0} → Table → Machine D → Guard → Goal → (old new : Walked) → Type 0
StandsValue t m g x old new =
    StandsWork (goal_unit (context_of_machine t m) (view_guard (arena old.exprs) g) m.registers.now x []) old new

abbrev pub StandsBranch : {D : Type 0} → Table → Machine D → Guard → Branch → (old new : Walked) → Type 0
StandsBranch t m g b old new =
    StandsUnder g (λ h. branch_work (context_of_machine t m) h m.registers.now [] b) old new

-- the arms of CASE without their conditions
abbrev pub StandsChoices : {D : Type 0} → Table → Machine D → Guard → Choices → (old new : Walked) → Type 0
StandsChoices t m g cs old new =
    StandsUnder g (λ h. choices_work (context_of_machine t m) h m.registers.now [] cs) old new

abbrev pub StandsBranches : {D : Type 0} → Table → Machine D → Guard → List Branch → (old new : Walked) → Type 0
StandsBranches t m g bs old new =
    StandsUnder g (λ h. branches_work (context_of_machine t m) h m.registers.now [] bs) old new

-- ---- states

-- work under any guard with the block of this one
abbrev pub StandsBlock : Guard → (meant.Guard Formula → Work) → (old new : Walked) → Type 0
StandsBlock g work old new =
    (h : meant.Guard Formula) → h.dontcare ≡ g.dontcare → h.block ≡ g.block → StandsWork (work h) old new

abbrev pub StandsStates : {D : Type 0} → Table → Machine D → Guard → List StateTree → (old new : Walked) → Type 0
StandsStates t m g states old new =
    StandsBlock g (λ h. states_work (context_of_machine t m) h m.registers.now [] [] states) old new

-- ---- diagrams

-- no match for each register
abbrev pub StandsHeader : {D : Type 0} → Table → Machine D → Guard → (old new : Walked) → Type 0
StandsHeader t m g old new =
    StandsWork (header_work (context_of_machine t m) (view_guard (arena old.exprs) g) m.registers.now) old new

-- states with the matches of signals that are no registers
abbrev pub StandsOthers : {D : Type 0} → Table → Machine D → Guard → List StateTree → (old new : Walked) → Type 0
StandsOthers t m g states old new =
    StandsBlock g (λ h. others_work (context_of_machine t m) h m.registers.now [] states) old new

-- a diagram after what was walked before
abbrev pub StandsDiagram : Table → Names → Guard → Diagram → (old new : Walked) → Type 0
StandsDiagram t n g x old new =
    StillStands (given_by (context_for t n) g x (arena old.exprs)) (places_by (context_for t n) x) old new
