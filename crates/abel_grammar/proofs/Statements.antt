-- The places of statements lie along their tokens, at each depth of nesting.
use Rattle.std.proofs.Common.{◌≡◌, ℕ, zero, suc, Bool, List, [], ◌∷◌, ◌++◌, Option, Some, None, refl, ap, option_map}
use Rattle.abel_grammar.proofs.Common.{flat_map, Form, Place, Token, Tree, Statement, statements_of, otherwise_of, Not, Semicolon, When, Then, Else, BraceOpen, BraceClose, bare_target, complemented_at, target, assign, dont_care_stmt, is_open, when, group, stmt, plain_stmt, places_of_some, places_of_expr, places_of_stmt, places_of_else, places_of_stmts}
use Rattle.abel_grammar.proofs.Forms.{Lies, token_lies, followed_lies, both, behind, before, turned, or_lies, nothing_lies, some_lies, many_lies, unless_lies, takes_token, takes_behind, takes_before, placed_lies}
use Rattle.abel_grammar.proofs.Expressions.{one_lies, end_lies, dont_care_lies, name_tree_lies, expr_lies, set_at_lies}

-- ---- assignments

bare_target_lies : (n : ℕ) → Lies (bare_target n) places_of_expr
bare_target_lies n = or_lies name_tree_lies (set_at_lies n)

abbrev in_target : Bool × Tree → List Place
in_target x = places_of_expr x.1

complemented_lies : (n : ℕ) → Lies (complemented_at n) in_target
unfolding complemented_at
complemented_lies zero = nothing_lies
complemented_lies (suc n) = turned (λ x. refl) (behind (one_lies Not) (bare_target_lies n))

target_lies : (n : ℕ) → Lies (target n) in_target
unfolding target
target_lies n = or_lies (complemented_lies n) (turned (λ x. refl) (bare_target_lies n))

assign_lies : (n : ℕ) → Lies (assign n) places_of_stmt
unfolding assign
assign_lies n =
    turned (λ x. refl)
    (placed_lies (takes_behind (target_lies n) (takes_before (takes_token _) (before (expr_lies n) (one_lies Semicolon))))
    (both (target_lies n) (both (token_lies _) (before (expr_lies n) (one_lies Semicolon)))))

dont_care_stmt_lies : Lies dont_care_stmt places_of_stmt
unfolding dont_care_stmt
dont_care_stmt_lies = turned (λ x. refl) dont_care_lies

-- ---- WHEN and groups

in_else : (o : Option (Token × Statement)) → places_of_else (otherwise_of (option_map (λ e. e.1) o)) ≡ places_of_some (λ e. places_of_stmt e.1) o
in_else None = refl
in_else (Some e) = refl

in_group : (ss : List Statement) → places_of_stmts (statements_of ss) ≡ flat_map places_of_stmt ss
in_group [] = refl
in_group (s ∷ ss) = ap (λ (l : List Place). places_of_stmt s ++ l) (in_group ss)

module _ {e : Form Token Tree} {s : Form Token Statement} (le : Lies e places_of_expr) (ls : Lies s places_of_stmt) where
  when_lies : Lies (when e s) places_of_stmt
  unfolding when
  when_lies =
      turned (λ x. ap (λ (l : List Place). x.0.place ∷ (places_of_expr x.1.0 ++ (places_of_stmt x.1.1.1.0 ++ l))) (in_else x.1.1.1.1))
      (both (one_lies When) (both le (behind (one_lies Then)
      (followed_lies ls (λ t. unless_lies (is_open t) None refl (some_lies (behind (one_lies Else) ls)))))))

group_lies : {s : Form Token Statement} → Lies s places_of_stmt → Lies (group s) places_of_stmt
unfolding group
group_lies ls =
    turned (λ x. in_group x.1.0)
    (behind (one_lies BraceOpen) (before (many_lies ls) (behind (one_lies BraceClose) end_lies)))

pub stmt_lies : (n : ℕ) → Lies (stmt n) places_of_stmt
unfolding stmt
stmt_lies zero = or_lies (or_lies (assign_lies zero) (or_lies dont_care_stmt_lies nothing_lies)) nothing_lies
stmt_lies (suc n) =
    or_lies (or_lies (assign_lies (suc n)) (or_lies dont_care_stmt_lies (when_lies (expr_lies n) (stmt_lies n))))
    (group_lies (stmt_lies n))

pub plain_stmt_lies : (n : ℕ) → Lies (plain_stmt n) places_of_stmt
unfolding plain_stmt
plain_stmt_lies zero = or_lies (assign_lies zero) (or_lies dont_care_stmt_lies nothing_lies)
plain_stmt_lies (suc n) =
    or_lies (assign_lies (suc n)) (or_lies dont_care_stmt_lies (when_lies (expr_lies n) (stmt_lies n)))
