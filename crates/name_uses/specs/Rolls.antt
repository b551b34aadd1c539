-- Private: a WHEN and an IF of the code as those of the language.
use Rattle.pld_base.specs.declared.place.Place.{Place}
use Rattle.abel_tree.specs.declared.diagrams.Arm.TheFolds.{fold-If}
use Rattle.abel_tree.specs.declared.diagrams.If.{If}
use Rattle.abel_tree.specs.declared.statements.Stmt.TheFolds.{fold-When}
use Rattle.abel_tree.specs.declared.statements.When.{When}
use Rattle.abel_tree.specs.Tree.{Branch, Statement, Tree}
use Rattle.abel_tree.specs.View.{arm_layer, case_arm_layer, case_layer, if_layer, stmt_layer, when_layer}

abbrev pub view_when : When → Statement
view_when = fold-When Statement Statement stmt_layer when_layer

abbrev pub view_if : If → Branch
view_if = fold-If Branch Branch (Tree × (Place × Branch)) Branch arm_layer case_layer case_arm_layer if_layer
