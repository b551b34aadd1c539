-- Expressions, read from left to right (a helper of the parser's own contracts).
use Rattle.std.specs.Prelude.{ℕ, zero, suc, List, [], ◌∷◌}
use Rattle.abel_grammar.specs.Prelude.{Token, Tree, ANumber, SetMember, OneMember}
use Rattle.abel_grammar.specs.Reading.{Reader, read_token, ◌then_read◌, read_either, read_chain, read_made, read_deep}
use Rattle.abel_grammar.specs.Further.{read_picked, starts_two}
use Rattle.abel_grammar.specs.declared.terminal.Terminal.{Terminal}
use Rattle.abel_grammar.specs.declared.terminal.Terminal.TheVariants as terminal
use Rattle.abel_grammar.specs.Terminals.{among}
use Rattle.abel_grammar.specs.WordReaders.{read_one, read_apart_by, read_name, read_number, read_ext}
use Rattle.abel_grammar.specs.Expressions.{name_tree_of, special_of, relations, sums, products, joined, paren_of, span_member_of, set_of, negated_of, negations}

unfoldable pub read_name_tree : Reader Token Tree
read_name_tree = read_made name_tree_of (read_name then_read read_ext)

unfoldable pub read_number_tree : Reader Token Tree
read_number_tree = read_made ANumber read_number

unfoldable pub read_special : Reader Token Tree
read_special = read_made special_of (read_one terminal.Special)

unfoldable pub read_simple : Reader Token Tree
read_simple =
    read_either (among (terminal.Identifier ∷ [])) read_name_tree
    (read_either (among (terminal.Number ∷ [])) read_number_tree read_special)

abbrev pub read_link : List Terminal → Reader Token Tree → Reader Token (Token × Tree)
read_link signs a = read_token (among signs) then_read a

abbrev pub read_level : List Terminal → Reader Token Tree → Reader Token Tree
read_level signs a = read_chain joined (among signs) a (read_link signs a)

unfoldable pub read_expr_over : Reader Token Tree → Reader Token Tree
read_expr_over e1 = read_level relations (read_level sums (read_level products e1))

unfoldable pub read_paren : Reader Token Tree → Reader Token Tree
read_paren expr = read_made paren_of (read_one terminal.Open then_read expr then_read read_one terminal.Close)

unfoldable pub read_span_member : Reader Token SetMember
read_span_member = read_made span_member_of (read_name then_read read_one terminal.Range then_read read_name)

-- a range if a name and `..` are there
unfoldable pub read_member : Reader Token Tree → Reader Token SetMember
read_member expr =
    read_picked (starts_two (among (terminal.Identifier ∷ [])) (among (terminal.Range ∷ []))) read_span_member
    (read_made OneMember expr)

unfoldable pub read_set : Reader Token Tree → Reader Token Tree
read_set expr =
    read_made set_of
    (read_one terminal.Left then_read read_apart_by terminal.Comma (read_member expr)
    then_read read_one terminal.Right then_read read_ext)

unfoldable pub read_negated : Reader Token Tree → Reader Token Tree
read_negated e1 = read_made negated_of (read_token (among negations) then_read e1)

unfoldable pub read_operand : ℕ → Reader Token Tree
read_operand zero =
    read_either (among negations) (read_deep (among negations))
    (read_either (among (terminal.Open ∷ [])) (read_deep (among (terminal.Open ∷ [])))
    (read_either (among (terminal.Left ∷ [])) (read_deep (among (terminal.Left ∷ []))) read_simple))
read_operand (suc n) =
    read_either (among negations) (read_negated (read_operand n))
    (read_either (among (terminal.Open ∷ [])) (read_paren (read_expr_over (read_operand n)))
    (read_either (among (terminal.Left ∷ [])) (read_set (read_expr_over (read_operand n))) read_simple))

abbrev pub read_expr : ℕ → Reader Token Tree
read_expr n = read_expr_over (read_operand n)

unfoldable pub read_set_at : ℕ → Reader Token Tree
read_set_at zero = read_deep (among (terminal.Left ∷ []))
read_set_at (suc n) = read_set (read_expr n)
