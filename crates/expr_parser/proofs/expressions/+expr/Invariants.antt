-- What was read before and what is still read is what is read from the start; and how deep calls go.
use Rattle.std.proofs.Common.{◌≡◌, length, map, [], ◌∷◌, ◌+◌, ◌*◌}
use Rattle.abel_grammar.proofs.ListTurns.{with_front}
use Rattle.abel_grammar.proofs.ChainTurns.{go_on}
use Rattle.abel_grammar.specs.Reading.{read_repeated}
use Rattle.abel_tree.specs.View.{view, view_member}
use Rattle.abel_grammar.specs.declared.terminal.Terminal.TheVariants as terminal
use Rattle.abel_grammar.specs.Terminals.{among}
use Rattle.abel_grammar.specs.WordReaders.{read_apart_by}
use Rattle.abel_grammar.specs.Expressions.{products, sums, relations, joined}
use Rattle.abel_grammar.specs.ExpressionReaders.{read_link, read_level, read_member, read_operand, read_expr}
use Rattle.expr_parser.proofs.expressions.+expr.Given as goal

abbrev pub decreases-operand : goal.decreases-operand
decreases-operand l = 10 * l.depth

abbrev pub decreases-product_link : goal.decreases-product_link
decreases-product_link l = 10 * l.depth + 1

abbrev pub decreases-product : goal.decreases-product
decreases-product l = 10 * l.depth + 2

abbrev pub decreases-sum_link : goal.decreases-sum_link
decreases-sum_link l = 10 * l.depth + 3

abbrev pub decreases-sum : goal.decreases-sum
decreases-sum l = 10 * l.depth + 4

abbrev pub decreases-relation_link : goal.decreases-relation_link
decreases-relation_link l = 10 * l.depth + 5

abbrev pub decreases-expr : goal.decreases-expr
decreases-expr l = 10 * l.depth + 6

abbrev pub decreases-member : goal.decreases-member
decreases-member l = 10 * l.depth + 7

abbrev pub decreases-members : goal.decreases-members
decreases-members l = 10 * l.depth + 8

abbrev pub decreases-negated : goal.decreases-negated
decreases-negated l = 10 * l.depth + 9

abbrev pub decreases-paren : goal.decreases-paren
decreases-paren l = 10 * l.depth + 9

abbrev pub decreases-set : goal.decreases-set
decreases-set l = 10 * l.depth + 9

abbrev pub invariant-members-list : goal.invariant-members-list
invariant-members-list l = with_front (map view_member l.list.items) (read_apart_by terminal.Comma (read_member (read_expr l.depth)) l.rest) ≡ read_apart_by terminal.Comma (read_member (read_expr l.depth)) l.tokens

abbrev pub decreases-members-list : goal.decreases-members-list
decreases-members-list l = length l.rest

abbrev pub invariant-product-links : goal.invariant-product-links
invariant-product-links l = go_on joined (view l.left) (read_repeated (among products) (read_link products (read_operand l.depth)) l.rest) ≡ read_level products (read_operand l.depth) l.tokens

abbrev pub decreases-product-links : goal.decreases-product-links
decreases-product-links l = length l.rest

abbrev pub invariant-sum-links : goal.invariant-sum-links
invariant-sum-links l = go_on joined (view l.left) (read_repeated (among sums) (read_link sums (read_level products (read_operand l.depth))) l.rest) ≡ read_level sums (read_level products (read_operand l.depth)) l.tokens

abbrev pub decreases-sum-links : goal.decreases-sum-links
decreases-sum-links l = length l.rest

abbrev pub invariant-expr-links : goal.invariant-expr-links
invariant-expr-links l = go_on joined (view l.left) (read_repeated (among relations) (read_link relations (read_level sums (read_level products (read_operand l.depth)))) l.rest) ≡ read_expr l.depth l.tokens

abbrev pub decreases-expr-links : goal.decreases-expr-links
decreases-expr-links l = length l.rest
