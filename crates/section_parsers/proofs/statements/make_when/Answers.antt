-- A WHEN is seen part by part, whether or not it has an ELSE.
use Rattle.std.proofs.Common.{◌≡◌, Option, Some, None, rules, option_map}
use Rattle.section_parsers.proofs.Common.{Place, Expr, AWhen, otherwise_of, view, view_stmt}
use Rattle.abel_tree.specs.declared.statements.Stmt.{Stmt, the_lemmas}
use Rattle.abel_tree.specs.declared.statements.Stmt as stmt
use Rattle.abel_tree.specs.declared.statements.Stmt.TheVariants as variants
use Rattle.abel_tree.specs.declared.statements.When.{roll-When}
use Rattle.section_parsers.proofs.statements.make_when.Goals as goal

seen : (p : Place) (c : Expr) (s : Stmt) (o : Option Stmt) → view_stmt (stmt.When (roll-When record { place = p; condition = c; then = s; otherwise = o })) ≡ AWhen p (view c) (view_stmt s) (otherwise_of (option_map view_stmt o))
seen p c s None = search (rules, the_lemmas)
seen p c s (Some other) = search (rules, the_lemmas)

pub returns : goal.returns
returns c = seen c.args.place c.args.condition c.args.then c.args.otherwise
