-- The places of words and expressions lie along their tokens, at each depth of nesting.
use Rattle.std.proofs.Common.{◌≡◌, ℕ, zero, suc, inl, inr, List, [], ◌∷◌, ◌++◌, refl, ap}
use Rattle.abel_grammar.proofs.Common.{flat_map, Form, Place, Token, Tree, SetMember, members_of, Terminal, Identifier, Number, Special, Extension, Open, Close, Left, Right, Range, Semicolon, DontCare, Text, one, name, number, text, ext, end, dont_care, name_tree, number_tree, special, simple, joined, level, relations, sums, products, expr_over, paren, span_member, member, set, negated, operand, expr, set_at, places_of_word, places_of_number, places_of_dont_care, places_of_expr, places_of_member, places_of_members}
use Rattle.abel_grammar.proofs.ExpressionLaws.{expr_laws}
use Rattle.abel_grammar.proofs.Forms.{Lies, Takes, token_lies, dropped, both, behind, before, turned, or_lies, nothing_lies, some_lies, apart_lies, chain_lies}

-- ---- words

pub one_lies : (t : Terminal) → Lies (one t) (λ x. x.place ∷ [])
one_lies t = token_lies _

pub end_lies : Lies end (λ _. [])
end_lies = dropped (some_lies (one_lies Semicolon))

ext_lies : Lies ext (λ _. [])
ext_lies = dropped (some_lies (one_lies Extension))

pub name_lies : Lies name places_of_word
unfolding name
name_lies = turned (λ x. refl) (one_lies Identifier)

pub number_lies : Lies number places_of_number
unfolding number
number_lies = turned (λ x. refl) (one_lies Number)

pub text_lies : Lies text places_of_word
unfolding text
text_lies = turned (λ x. refl) (one_lies Text)

pub dont_care_lies : Lies dont_care places_of_dont_care
unfolding dont_care
dont_care_lies = turned (λ x. refl) (before (one_lies DontCare) end_lies)

-- ---- what needs no nesting

pub name_tree_lies : Lies name_tree places_of_expr
unfolding name_tree
name_tree_lies = turned (λ x. refl) (before name_lies ext_lies)

number_tree_lies : Lies number_tree places_of_expr
unfolding number_tree
number_tree_lies = turned (λ x. refl) number_lies

special_lies : Lies special places_of_expr
unfolding special
special_lies = turned (λ x. refl) (one_lies Special)

simple_lies : Lies simple places_of_expr
simple_lies = or_lies name_tree_lies (or_lies number_tree_lies special_lies)

-- ---- levels of priority

level_lies : {a : Form Token Tree} (signs : List Terminal) → Lies a places_of_expr → Lies (level signs a) places_of_expr
level_lies signs la =
    chain_lies joined places_of_expr (λ x. x.0.place ∷ places_of_expr x.1) (λ l x. refl) la (both (token_lies _) la)

expr_over_lies : {a : Form Token Tree} → Lies a places_of_expr → Lies (expr_over a) places_of_expr
unfolding expr_over
expr_over_lies la = level_lies relations (level_lies sums (level_lies products la))

-- ---- what opens a nesting

paren_lies : {e : Form Token Tree} → Lies e places_of_expr → Lies (paren e) places_of_expr
unfolding paren
paren_lies le = turned (λ x. refl) (both (one_lies Open) (before le (one_lies Close)))

span_member_lies : Lies span_member places_of_member
unfolding span_member
span_member_lies = turned (λ x. refl) (both name_lies (behind (one_lies Range) name_lies))

member_lies : {e : Form Token Tree} → Lies e places_of_expr → Lies (member e) places_of_member
member_lies le = or_lies span_member_lies (turned (λ x. refl) le)

in_members : (ms : List SetMember) → places_of_members (members_of ms) ≡ flat_map places_of_member ms
in_members [] = refl
in_members (m ∷ ms) = ap (λ (l : List Place). places_of_member m ++ l) (in_members ms)

set_lies : {e : Form Token Tree} → Lies e places_of_expr → Lies (set e) places_of_expr
unfolding set
set_lies le =
    turned (λ x. ap (λ (l : List Place). x.0.place ∷ l) (in_members x.1.0))
    (both (one_lies Left) (before (apart_lies _ (member_lies le)) (behind (one_lies Right) ext_lies)))

negated_lies : {e : Form Token Tree} → Lies e places_of_expr → Lies (negated e) places_of_expr
unfolding negated
negated_lies le = turned (λ x. refl) (both (token_lies _) le)

operand_lies : (n : ℕ) → Lies (operand n) places_of_expr
unfolding operand
operand_lies zero = or_lies nothing_lies (or_lies nothing_lies (or_lies nothing_lies simple_lies))
operand_lies (suc n) =
    or_lies (negated_lies (operand_lies n))
    (or_lies (paren_lies (expr_over_lies (operand_lies n))) (or_lies (set_lies (expr_over_lies (operand_lies n))) simple_lies))

pub expr_lies : (n : ℕ) → Lies (expr n) places_of_expr
expr_lies n = expr_over_lies (operand_lies n)

pub expr_takes : (n : ℕ) → Takes (expr n)
expr_takes n = record { less = λ ts t rest s. elim ((expr_laws n).takes ts t rest s) [ inl h ↦ h.1 | inr h ↦ absurd cc ] }

pub set_at_lies : (n : ℕ) → Lies (set_at n) places_of_expr
unfolding set_at
set_at_lies zero = nothing_lies
set_at_lies (suc n) = set_lies (expr_lies n)
