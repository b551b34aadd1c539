-- The tree that a tree of the code represents.
use Rattle.std.specs.Prelude.{List, map, option_map, false}
use Rattle.pld_base.specs.declared.place.Place.{Place}
use Rattle.abel_tree.specs.declared.expressions.Expr.{Expr}
use Rattle.abel_tree.specs.declared.expressions.Expr.TheOpen as expr
use Rattle.abel_tree.specs.declared.expressions.Expr.TheFolds.{fold-Expr, fold-Member}
use Rattle.abel_tree.specs.declared.expressions.Member.{Member}
use Rattle.abel_tree.specs.declared.statements.Stmt.{Stmt}
use Rattle.abel_tree.specs.declared.statements.Stmt.TheOpen as stmt
use Rattle.abel_tree.specs.declared.statements.Stmt.TheFolds.{fold-Stmt}
use Rattle.abel_tree.specs.declared.diagrams.Arm.{Arm}
use Rattle.abel_tree.specs.declared.diagrams.Arm.TheOpen as arm
use Rattle.abel_tree.specs.declared.diagrams.Arm.TheFolds.{fold-Arm, fold-CaseArm}
use Rattle.abel_tree.specs.declared.diagrams.CaseArm.{CaseArm}
use Rattle.abel_tree.specs.declared.diagrams.State.{State}
use Rattle.abel_tree.specs.declared.tables.Row.{Row}
use Rattle.abel_tree.specs.declared.tables.VectorRow.{VectorRow}
use Rattle.abel_tree.specs.declared.sections.Section.{Section}
use Rattle.abel_tree.specs.declared.sections.Section.TheVariants as section
use Rattle.abel_tree.specs.declared.sections.Module.{Module}
use Rattle.abel_tree.specs.declared.declarations.Decl.{Decl}
use Rattle.abel_tree.specs.declared.declarations.Decl.TheVariants as decl
use Rattle.abel_tree.specs.Tree.{StateTree, Declaration, ADevice, SomePins, SomeNodes, SomeAttributes, SomeConstants, SomeOptions, DontCareFor, Tree, ANumber, ASpecial, AName, ASet, AParen, AUnary, ABinary, SetMember, OneMember, SpanMember, members_of, Statement, AnAssign, AWhen, AGroup, ADontCare, statements_of, otherwise_of, Branch, AGoal, AnIf, ACase, choices_of, other_of, RowTree, SectionTree, Declarations, Equations, ATable, ADiagram, SomeVectors, DontCareSection, ModuleTree}

-- expressions
abbrev pub expr_layer : expr.Expr-F Tree SetMember → Tree
expr_layer (expr.Number n) = ANumber n
expr_layer (expr.Special letter place) = ASpecial letter place
expr_layer (expr.Name word extension) = AName word extension
expr_layer (expr.Set place members extension) = ASet place (members_of members) extension
expr_layer (expr.Paren place inner) = AParen place inner
expr_layer (expr.Unary sign place inner) = AUnary sign place inner
expr_layer (expr.Binary sign place left right) = ABinary sign place left right

abbrev pub member_layer : expr.Member-F Tree SetMember → SetMember
member_layer (expr.One e) = OneMember e
member_layer (expr.Span first last) = SpanMember first last

abbrev pub view : Expr → Tree
view = fold-Expr Tree SetMember expr_layer member_layer

abbrev pub view_member : Member → SetMember
view_member = fold-Member Tree SetMember expr_layer member_layer

-- statements
abbrev pub stmt_layer : stmt.Stmt-F Statement Statement → Statement
stmt_layer (stmt.Assign a) = AnAssign a.place a.complement (view a.target) a.sign a.sign_place (view a.value)
stmt_layer (stmt.When w) = w
stmt_layer (stmt.Group list) = AGroup (statements_of list)
stmt_layer (stmt.DontCare d) = ADontCare d

abbrev pub when_layer : stmt.When-F Statement Statement → Statement
when_layer w = AWhen w.place (view w.condition) w.then (otherwise_of w.otherwise)

abbrev pub view_stmt : Stmt → Statement
view_stmt = fold-Stmt Statement Statement stmt_layer when_layer

-- transitions
abbrev pub arm_layer : arm.Arm-F Branch Branch (Tree × (Place × Branch)) Branch → Branch
arm_layer (arm.Goal g) = AGoal g.place (view g.value) (option_map (λ l. map view_stmt l) g.with)
arm_layer (arm.If i) = i
arm_layer (arm.Case c) = c

abbrev pub case_layer : arm.Case-F Branch Branch (Tree × (Place × Branch)) Branch → Branch
case_layer c = ACase c.place (choices_of c.arms)

abbrev pub case_arm_layer : arm.CaseArm-F Branch Branch (Tree × (Place × Branch)) Branch → Tree × (Place × Branch)
case_arm_layer c = (view c.condition, (c.colon, c.result))

abbrev pub if_layer : arm.If-F Branch Branch (Tree × (Place × Branch)) Branch → Branch
if_layer i = AnIf i.place (view i.condition) i.then (other_of i.otherwise)

abbrev pub view_arm : Arm → Branch
view_arm = fold-Arm Branch Branch (Tree × (Place × Branch)) Branch arm_layer case_layer case_arm_layer if_layer

abbrev pub view_choice : CaseArm → Tree × (Place × Branch)
view_choice = fold-CaseArm Branch Branch (Tree × (Place × Branch)) Branch arm_layer case_layer case_arm_layer if_layer

-- states and declarations
abbrev pub view_state : State → StateTree
view_state s = record { place = s.place; value = view s.value; statements = map view_stmt s.statements; transitions = map view_arm s.transitions }

abbrev pub view_decl : Decl → Declaration
view_decl (decl.Device name text) = ADevice name text
view_decl (decl.Pins names numbers attributes) = SomePins names numbers attributes
view_decl (decl.Nodes names numbers attributes) = SomeNodes names numbers attributes
view_decl (decl.Attributes names attributes) = SomeAttributes names attributes
view_decl (decl.Constants names values) = SomeConstants names (map view values)
view_decl (decl.Options words) = SomeOptions words
view_decl (decl.DontCare d) = DontCareFor d

-- rows; a row of vectors has no clock
abbrev pub view_row : Row → RowTree
view_row r = record { place = r.place; inputs = view r.inputs; clocked = r.clocked; outputs = view r.outputs }

abbrev pub view_vector_row : VectorRow → RowTree
view_vector_row r = record { place = r.place; inputs = view r.inputs; clocked = false; outputs = view r.outputs }

-- sections and the module
abbrev pub view_section : Section → SectionTree
view_section (section.Declarations ds) = Declarations (map view_decl ds)
view_section (section.Equations ss) = Equations (map view_stmt ss)
view_section (section.Table t) = ATable t.place (view t.inputs) t.clocked (view t.outputs) (map view_row t.rows)
view_section (section.Diagram d) = ADiagram d.place (view d.registers) (map view_state d.states)
view_section (section.Vectors v) = SomeVectors v.note v.place (view v.inputs) (view v.outputs) (map view_vector_row v.rows)
view_section (section.DontCare d) = DontCareSection d

abbrev pub view_module : Module → ModuleTree
view_module m = record { place = m.place; name = m.name; title = m.title; options = m.options; decls = map view_decl m.decls; sections = map view_section m.sections }
