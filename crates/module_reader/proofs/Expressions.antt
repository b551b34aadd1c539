-- Each front of the tokens of a word or an expression begins it, at each depth of nesting.
use Rattle.std.proofs.Common.{ℕ, zero, suc, List}
use Rattle.module_reader.proofs.Common.{Form, Token, Tree, Terminal, Identifier, Number, Special, Extension, Open, Close, Left, Right, Range, Semicolon, DontCare, Text, one, name, number, text, ext, end, dont_care}
use Rattle.abel_grammar.specs.Expressions.{name_tree, number_tree, special, simple, level, relations, sums, products, expr_over, paren, span_member, member, set, negated, operand, expr, set_at}
use Rattle.module_reader.proofs.Forms.{Begun, token_begun, then_begun, made_begun, or_begun, nothing_begun, some_begun, apart_begun, chain_begun}

-- ---- words

pub one_begun : (t : Terminal) → Begun (one t)
one_begun t = token_begun _

pub end_begun : Begun end
end_begun = some_begun (one_begun Semicolon)

ext_begun : Begun ext
ext_begun = some_begun (one_begun Extension)

pub name_begun : Begun name
unfolding name
name_begun = made_begun (one_begun Identifier)

pub number_begun : Begun number
unfolding number
number_begun = made_begun (one_begun Number)

pub text_begun : Begun text
unfolding text
text_begun = made_begun (one_begun Text)

pub dont_care_begun : Begun dont_care
unfolding dont_care
dont_care_begun = made_begun (then_begun (one_begun DontCare) end_begun)

-- ---- what needs no nesting

pub name_tree_begun : Begun name_tree
unfolding name_tree
name_tree_begun = made_begun (then_begun name_begun ext_begun)

number_tree_begun : Begun number_tree
unfolding number_tree
number_tree_begun = made_begun number_begun

special_begun : Begun special
unfolding special
special_begun = made_begun (one_begun Special)

simple_begun : Begun simple
simple_begun = or_begun name_tree_begun (or_begun number_tree_begun special_begun)

-- ---- levels of priority

level_begun : {a : Form Token Tree} (signs : List Terminal) → Begun a → Begun (level signs a)
level_begun signs la = chain_begun la (then_begun (token_begun _) la)

expr_over_begun : {a : Form Token Tree} → Begun a → Begun (expr_over a)
unfolding expr_over
expr_over_begun la = level_begun relations (level_begun sums (level_begun products la))

-- ---- what opens a nesting

paren_begun : {e : Form Token Tree} → Begun e → Begun (paren e)
unfolding paren
paren_begun le = made_begun (then_begun (one_begun Open) (then_begun le (one_begun Close)))

span_member_begun : Begun span_member
unfolding span_member
span_member_begun = made_begun (then_begun name_begun (then_begun (one_begun Range) name_begun))

member_begun : {e : Form Token Tree} → Begun e → Begun (member e)
member_begun le = or_begun span_member_begun (made_begun le)

set_begun : {e : Form Token Tree} → Begun e → Begun (set e)
unfolding set
set_begun le =
    made_begun
    (then_begun (one_begun Left) (then_begun (apart_begun _ (member_begun le)) (then_begun (one_begun Right) ext_begun)))

negated_begun : {e : Form Token Tree} → Begun e → Begun (negated e)
unfolding negated
negated_begun le = made_begun (then_begun (token_begun _) le)

operand_begun : (n : ℕ) → Begun (operand n)
unfolding operand
operand_begun zero = or_begun nothing_begun (or_begun nothing_begun (or_begun nothing_begun simple_begun))
operand_begun (suc n) =
    or_begun (negated_begun (operand_begun n))
    (or_begun (paren_begun (expr_over_begun (operand_begun n))) (or_begun (set_begun (expr_over_begun (operand_begun n))) simple_begun))

pub expr_begun : (n : ℕ) → Begun (expr n)
expr_begun n = expr_over_begun (operand_begun n)

pub set_at_begun : (n : ℕ) → Begun (set_at n)
unfolding set_at
set_at_begun zero = nothing_begun
set_at_begun (suc n) = set_begun (expr_begun n)
