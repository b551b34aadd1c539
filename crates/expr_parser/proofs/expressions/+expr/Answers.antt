-- Each turn reads one entry.
use Rattle.std.proofs.Common.{◌≡◌, [], ◌∷◌, ◌++◌, map, sym, ◌∙◌}
use Rattle.std.proofs.lemmas.List.{map_push}
use Rattle.abel_grammar.proofs.ChainTurns.{chain_turn}
use Rattle.abel_grammar.proofs.SeparatedTurns.{separated_turn, separated_shorter}
use Rattle.abel_tree.specs.View.{view, view_member}
use Rattle.abel_grammar.specs.declared.terminal.Terminal.TheVariants as terminal
use Rattle.abel_grammar.specs.Terminals.{among}
use Rattle.abel_grammar.specs.WordReaders.{read_apart_by}
use Rattle.abel_grammar.specs.Expressions.{products, sums, relations, joined}
use Rattle.abel_grammar.specs.ExpressionReaders.{read_link, read_level, read_member, read_operand, read_expr}
use Rattle.abel_grammar.proofs.Shorter.{product_link_shorter, sum_link_shorter, relation_link_shorter, member_shorter}
use Rattle.expr_parser.proofs.expressions.+expr.Goals as goal

pub product-links-smaller : goal.product-links-smaller
product-links-smaller t c = product_link_shorter c.args.depth c.links.rest.now ((c.in_ok-sign.sign.now, view c.in_ok-sign.right), c.in_ok-sign.after.now) c.in_ok-sign.ensures

pub product-links-preserved : goal.product-links-preserved
product-links-preserved t c =
    rw (c.in_ok-left.ensures, c.binary_of.ensures, c.terminal_of.ensures) (chain_turn joined (among products) (read_operand c.args.depth) (read_link products (read_operand c.args.depth)) (product_link_shorter c.args.depth) (view c.links.left) c.links.rest.now ((c.in_ok-sign.sign.now, view c.in_ok-sign.right), c.in_ok-sign.after.now)
    (read_level products (read_operand c.args.depth) c.args.tokens.now) (sym c.begins_product.ensures ∙ c.links-test.true) c.in_ok-sign.ensures c.links.invariant)

pub sum-links-smaller : goal.sum-links-smaller
sum-links-smaller t c = sum_link_shorter c.args.depth c.links.rest.now ((c.in_ok-sign.sign.now, view c.in_ok-sign.right), c.in_ok-sign.after.now) c.in_ok-sign.ensures

pub sum-links-preserved : goal.sum-links-preserved
sum-links-preserved t c =
    rw (c.in_ok-left.ensures, c.binary_of.ensures, c.terminal_of.ensures) (chain_turn joined (among sums) (read_level products (read_operand c.args.depth)) (read_link sums (read_level products (read_operand c.args.depth))) (sum_link_shorter c.args.depth) (view c.links.left) c.links.rest.now ((c.in_ok-sign.sign.now, view c.in_ok-sign.right), c.in_ok-sign.after.now)
    (read_level sums (read_level products (read_operand c.args.depth)) c.args.tokens.now) (sym c.begins_sum.ensures ∙ c.links-test.true) c.in_ok-sign.ensures c.links.invariant)

pub expr-links-smaller : goal.expr-links-smaller
expr-links-smaller t c = relation_link_shorter c.args.depth c.links.rest.now ((c.in_ok-sign.sign.now, view c.in_ok-sign.right), c.in_ok-sign.after.now) c.in_ok-sign.ensures

pub expr-links-preserved : goal.expr-links-preserved
expr-links-preserved t c =
    rw (c.in_ok-left.ensures, c.binary_of.ensures, c.terminal_of.ensures) (chain_turn joined (among relations) (read_level sums (read_level products (read_operand c.args.depth))) (read_link relations (read_level sums (read_level products (read_operand c.args.depth)))) (relation_link_shorter c.args.depth) (view c.links.left) c.links.rest.now ((c.in_ok-sign.sign.now, view c.in_ok-sign.right), c.in_ok-sign.after.now)
    (read_expr c.args.depth c.args.tokens.now) (sym c.begins_relation.ensures ∙ c.links-test.true) c.in_ok-sign.ensures c.links.invariant)

pub members-list-smaller : goal.members-list-smaller
members-list-smaller t c =
    separated_shorter (read_member (read_expr c.args.depth)) (among (terminal.Comma ∷ [])) (member_shorter c.args.depth) c.list.rest.now (view_member c.in_ok-next.next, c.in_ok-next.after.now) c.in-Some.others.now c.in_ok-next.ensures (sym c.in-Some.ensures)

pub members-list-preserved : goal.members-list-preserved
members-list-preserved t c =
    let e : map view_member c.push.new.self.items ≡ map view_member c.list.list.items ++ view_member c.in_ok-next.next ∷ [] = rw c.in_ok-push.ensures.items (map_push _ c.list.list.items c.in_ok-next.next) in
    rw e (separated_turn (read_member (read_expr c.args.depth)) (among (terminal.Comma ∷ [])) (member_shorter c.args.depth) (map view_member c.list.list.items) c.list.rest.now (view_member c.in_ok-next.next, c.in_ok-next.after.now) c.in-Some.others.now
    (read_apart_by terminal.Comma (read_member (read_expr c.args.depth)) c.args.tokens.now) c.in_ok-next.ensures (sym c.in-Some.ensures) c.list.invariant)
