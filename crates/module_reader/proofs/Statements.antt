-- Each front of the tokens of a statement begins it, at each depth of nesting.
use Rattle.std.proofs.Common.{ℕ, zero, suc, None}
use Rattle.module_reader.proofs.Common.{Form, Token, Tree, Statement, Not, Semicolon, When, Then, Else, BraceOpen, BraceClose, takes_token, takes_behind, takes_before}
use Rattle.abel_grammar.specs.Statements.{bare_target, complemented_at, target, assign, dont_care_stmt, is_open, when, group, stmt, plain_stmt}
use Rattle.module_reader.proofs.Forms.{Begun, token_begun, followed_begun, then_begun, made_begun, or_begun, nothing_begun, some_begun, unless_begun, many_begun, lies, placed_begun}
use Rattle.module_reader.proofs.Expressions.{one_begun, end_begun, dont_care_begun, name_tree_begun, expr_begun, set_at_begun}

-- ---- assignments

bare_target_begun : (n : ℕ) → Begun (bare_target n)
bare_target_begun n = or_begun name_tree_begun (set_at_begun n)

complemented_begun : (n : ℕ) → Begun (complemented_at n)
unfolding complemented_at
complemented_begun zero = nothing_begun
complemented_begun (suc n) = made_begun (then_begun (one_begun Not) (bare_target_begun n))

target_begun : (n : ℕ) → Begun (target n)
unfolding target
target_begun n = or_begun (complemented_begun n) (made_begun (bare_target_begun n))

assign_begun : (n : ℕ) → Begun (assign n)
unfolding assign
assign_begun n =
    made_begun
    (placed_begun (takes_behind (lies (target_begun n)) (takes_before (takes_token _) (lies (then_begun (expr_begun n) (one_begun Semicolon)))))
    (then_begun (target_begun n) (then_begun (token_begun _) (then_begun (expr_begun n) (one_begun Semicolon)))))

dont_care_stmt_begun : Begun dont_care_stmt
unfolding dont_care_stmt
dont_care_stmt_begun = made_begun dont_care_begun

-- ---- WHEN and groups

when_begun : {e : Form Token Tree} {s : Form Token Statement} → Begun e → Begun s → Begun (when e s)
unfolding when
when_begun le ls =
    made_begun
    (then_begun (one_begun When) (then_begun le (then_begun (one_begun Then)
    (followed_begun ls (λ t. unless_begun (is_open t) None (some_begun (then_begun (one_begun Else) ls)))))))

group_begun : {s : Form Token Statement} → Begun s → Begun (group s)
unfolding group
group_begun ls =
    made_begun (then_begun (one_begun BraceOpen) (then_begun (many_begun ls) (then_begun (one_begun BraceClose) end_begun)))

pub stmt_begun : (n : ℕ) → Begun (stmt n)
unfolding stmt
stmt_begun zero = or_begun (or_begun (assign_begun zero) (or_begun dont_care_stmt_begun nothing_begun)) nothing_begun
stmt_begun (suc n) =
    or_begun (or_begun (assign_begun (suc n)) (or_begun dont_care_stmt_begun (when_begun (expr_begun n) (stmt_begun n))))
    (group_begun (stmt_begun n))

pub plain_stmt_begun : (n : ℕ) → Begun (plain_stmt n)
unfolding plain_stmt
plain_stmt_begun zero = or_begun (assign_begun zero) (or_begun dont_care_stmt_begun nothing_begun)
plain_stmt_begun (suc n) =
    or_begun (assign_begun (suc n)) (or_begun dont_care_stmt_begun (when_begun (expr_begun n) (stmt_begun n)))
