-- What reading gives is the verdict.
use Rattle.std.proofs.Common.{◌≡◌, [], ◌∷◌, true, false, length, List, sym, ap, subst, ◌∙◌}
use Rattle.abel_tree.specs.View.{view_module}
use Rattle.abel_grammar.proofs.Verdict.{is_tree, is_only_tree}
use Rattle.abel_grammar.proofs.Modules.{places_lie}
use Rattle.abel_grammar.proofs.Sections.{places_rise}
use Rattle.abel_parser.proofs.Refused.{is_accepted, refused_syntax, refused_deep, refused_left, none_left}
use Rattle.abel_parser.proofs.parsing.parse.Goals as goal

pub returns-then-is_empty-clause-tree : goal.returns-then-is_empty-clause-tree
returns-then-is_empty-clause-tree c =
    is_accepted c.args.tokens.now (view_module c.in-Ok.module) (none_left c.args.tokens.now (view_module c.in-Ok.module) c.in-Ok.rest.now c.in-Ok.ensures (sym c.is_empty.ensures ∙ c.if-is_empty.true))

pub returns-then-is_empty-clause-only : goal.returns-then-is_empty-clause-only
returns-then-is_empty-clause-only c =
    is_only_tree c.args.tokens.now (view_module c.in-Ok.module) (none_left c.args.tokens.now (view_module c.in-Ok.module) c.in-Ok.rest.now c.in-Ok.ensures (sym c.is_empty.ensures ∙ c.if-is_empty.true))

pub returns-then-is_empty-clause-places : goal.returns-then-is_empty-clause-places
returns-then-is_empty-clause-places c =
    places_lie c.args.tokens.now (view_module c.in-Ok.module)
    (is_tree c.args.tokens.now (view_module c.in-Ok.module) (none_left c.args.tokens.now (view_module c.in-Ok.module) c.in-Ok.rest.now c.in-Ok.ensures (sym c.is_empty.ensures ∙ c.if-is_empty.true)))

pub returns-then-is_empty-clause-rising : goal.returns-then-is_empty-clause-rising
returns-then-is_empty-clause-rising c =
    places_rise c.args.tokens.now (view_module c.in-Ok.module)
    (is_tree c.args.tokens.now (view_module c.in-Ok.module) (none_left c.args.tokens.now (view_module c.in-Ok.module) c.in-Ok.rest.now c.in-Ok.ensures (sym c.is_empty.ensures ∙ c.if-is_empty.true)))

pub returns-else-is_empty-clause-refused : goal.returns-else-is_empty-clause-refused
returns-else-is_empty-clause-refused c =
    rw c.place_of.ensures (refused_left c.args.tokens.now (view_module c.in-Ok.module) c.in-Ok.rest.now c.args.end c.in-Ok.ensures (sym c.is_empty.ensures ∙ c.if-is_empty.false))

pub returns-in-Err-Syntax-clause-refused : goal.returns-in-Err-Syntax-clause-refused
returns-in-Err-Syntax-clause-refused c =
    rw c.place_of-in-Err-Syntax.ensures (refused_syntax c.args.tokens.now c.in-Err-Syntax.left.now c.args.end (rw c.in-Err-Syntax.field-0-is at c.in-Err-Syntax.ensures))

pub returns-in-Err-TooDeep-clause-refused : goal.returns-in-Err-TooDeep-clause-refused
returns-in-Err-TooDeep-clause-refused c =
    rw c.place_of-in-Err-TooDeep.ensures (refused_deep c.args.tokens.now c.in-Err-TooDeep.left.now c.args.end (rw c.in-Err-TooDeep.field-0-is at c.in-Err-TooDeep.ensures))
