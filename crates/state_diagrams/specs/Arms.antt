-- Transitions by their kinds, as the tree has them.
use Rattle.std.specs.Prelude.{List, map, option_map}
use Rattle.state_diagrams.specs.Prelude.{Place, CaseArm, Goal, Tree, Branch, AGoal, Choices, choices_of, view, view_stmt, view_arm, view_choice, arm_layer, case_layer, case_arm_layer, if_layer}
use Rattle.abel_tree.specs.declared.diagrams.Arm.{Arm}
use Rattle.abel_tree.specs.declared.diagrams.Case.{Case, out-Case}
use Rattle.abel_tree.specs.declared.diagrams.Arm.TheFolds.{fold-If}
use Rattle.abel_tree.specs.declared.diagrams.If.{If}

abbrev pub view_goal : Goal → Branch
view_goal g = AGoal g.place (view g.value) (option_map (λ l. map view_stmt l) g.with)

abbrev pub view_if : If → Branch
view_if = fold-If Branch Branch (Tree × (Place × Branch)) Branch arm_layer case_layer case_arm_layer if_layer

abbrev pub view_arms : List Arm → List Branch
view_arms list = map view_arm list

abbrev pub view_choices : List CaseArm → Choices
view_choices list = choices_of (map view_choice list)

-- a CASE at its place, with its arms
abbrev pub case_place : Case → Place
case_place x = (out-Case x).place

abbrev pub case_arms : Case → List CaseArm
case_arms x = (out-Case x).arms

abbrev pub case_choices : Case → Choices
case_choices x = view_choices (case_arms x)
