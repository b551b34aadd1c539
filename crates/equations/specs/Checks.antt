-- Statements by their kinds, as the tree has them.
use Rattle.std.specs.Prelude.{List, map}
use Rattle.equations.specs.Prelude.{Assign, Statement, AnAssign, Statements, statements_of, view, view_stmt, stmt_layer, when_layer}
use Rattle.abel_tree.specs.declared.statements.Stmt.{Stmt}
use Rattle.abel_tree.specs.declared.statements.Stmt.TheFolds.{fold-When}
use Rattle.abel_tree.specs.declared.statements.When.{When}

abbrev pub view_assign : Assign → Statement
view_assign a = AnAssign a.place a.complement (view a.target) a.sign a.sign_place (view a.value)

abbrev pub view_when : When → Statement
view_when = fold-When Statement Statement stmt_layer when_layer

abbrev pub view_list : List Stmt → Statements
view_list list = statements_of (map view_stmt list)
