-- An IF is seen part by part, whether or not it has an ELSE.
use Rattle.std.proofs.Common.{◌≡◌, Option, Some, None, rules, option_map}
use Rattle.section_parsers.proofs.Common.{Place, Expr, Arm, the_lemmas, AnIf, other_of, view, view_arm}
use Rattle.abel_tree.specs.declared.diagrams.Arm as arm
use Rattle.abel_tree.specs.declared.diagrams.Arm.TheVariants as variants
use Rattle.abel_tree.specs.declared.diagrams.If.{roll-If}
use Rattle.section_parsers.proofs.transitions.make_if.Goals as goal

seen : (p : Place) (c : Expr) (s : Arm) (o : Option Arm) → view_arm (arm.If (roll-If record { place = p; condition = c; then = s; otherwise = o })) ≡ AnIf p (view c) (view_arm s) (other_of (option_map view_arm o))
seen p c s None = search (rules, the_lemmas)
seen p c s (Some other) = search (rules, the_lemmas)

pub returns : goal.returns
returns c = seen c.args.place c.args.condition c.args.then c.args.otherwise
