-- Trees of the code at each variant.
use Rattle.std.proofs.Common.{◌≡◌, List, map, rules, ℕ, Option}
use Rattle.expr_bits.proofs.Common.{Place, Binary, Extension, Unary, ANumber, ASpecial, AName, ASet, AParen, AUnary, ABinary, OneMember, SpanMember, members_of, view, view_member}
use Rattle.abel_tree.specs.declared.expressions.Expr.{Expr, the_lemmas}
use Rattle.abel_tree.specs.declared.expressions.Expr as expr
use Rattle.abel_tree.specs.declared.expressions.Member.{Member}
use Rattle.abel_tree.specs.declared.expressions.Member as member
use Rattle.abel_tree.specs.declared.words.Number.{Number}
use Rattle.abel_tree.specs.declared.words.Word.{Word}

pub view_number : (n : Number) → view (expr.Number n) ≡ ANumber n
view_number n = search (rules, the_lemmas)

pub view_special : (letter : ℕ) (p : Place) → view (expr.Special letter p) ≡ ASpecial letter p
view_special letter p = search (rules, the_lemmas)

pub view_set : (p : Place) (ms : List Member) (e : Option Extension) → view (expr.Set p ms e) ≡ ASet p (members_of (map view_member ms)) e
view_set p ms e = search (rules, the_lemmas)

pub view_unary : (sign : Unary) (p : Place) (t : Expr) → view (expr.Unary sign p t) ≡ AUnary sign p (view t)
view_unary sign p t = search (rules, the_lemmas)

pub view_binary : (sign : Binary) (p : Place) (t u : Expr) → view (expr.Binary sign p t u) ≡ ABinary sign p (view t) (view u)
view_binary sign p t u = search (rules, the_lemmas)

pub view_one : (t : Expr) → view_member (member.One t) ≡ OneMember (view t)
view_one t = search (rules, the_lemmas)

pub view_span : (first last : Word) → view_member (member.Span first last) ≡ SpanMember first last
view_span first last = search (rules, the_lemmas)

pub view_paren : (p : Place) (t : Expr) → view (expr.Paren p t) ≡ AParen p (view t)
view_paren p t = search (rules, the_lemmas)

pub view_name : (w : Word) (e : Option Extension) → view (expr.Name w e) ≡ AName w e
view_name w e = search (rules, the_lemmas)
