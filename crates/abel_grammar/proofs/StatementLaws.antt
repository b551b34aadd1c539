-- The laws of statements, at each depth of nesting.
use Rattle.std.proofs.Common.{◌≡◌, ℕ, zero, suc, Bool, true, false, List, [], ◌∷◌, ◌++◌, Option, Some, None, refl, ◌||◌, ◌&&◌, not}
use Rattle.abel_grammar.proofs.Common.{Form, ◌then◌, followed, either, optional, repeated, nothing, Reader, ◌then_read◌, read_followed, read_either, read_optional, read_deep, unless, read_unless, Token, Tree, Statement, ADontCare, Terminal, Identifier, Left, Not, Extension, Semicolon, DontCare, When, Then, Else, BraceOpen, BraceClose, among, one, end, read_one, read_end, expr, read_expr, assigns, bare_target, plain_of, complemented_of, complemented_at, target, assign_of, assign, dont_care_stmt, is_open, when_of, when, group_of, group, stmt, plain_stmt, read_bare_target, read_complemented_at, read_target, read_assign, read_dont_care_stmt, read_when, assign_starts, plain_starts, stmt_starts, read_stmts, read_group, read_stmt, read_plain_stmt}
use Rattle.abel_grammar.proofs.Laws.{Lawful}
use Rattle.abel_grammar.proofs.MadeLaws.{made_laws}
use Rattle.abel_grammar.proofs.FurtherLaws.{opening_laws}
use Rattle.abel_grammar.proofs.OptionalLaws.{behind_option}
use Rattle.abel_grammar.proofs.Sets.{Obeys, one_laws, some_laws, then_laws, or_laws, turned, too_deep, placed_obeys, led_by, or_trails, trails, behind_open, many_open, part_laws}
use Rattle.abel_grammar.proofs.ExpressionLaws.{exprs, behind_expr, end_laws, dont_care_laws, name_tree_laws, set_at_laws, expr_laws}

abbrev semicolon : List Terminal
semicolon = Semicolon ∷ []

abbrev else_word : List Terminal
else_word = Else ∷ []

-- what may go on after a statement: a `;` after a group or a dc, and an ELSE if a WHEN is open
abbrev pub behind : Statement → Token → Bool
behind = behind_open semicolon else_word is_open

abbrev pub any_behind : List Terminal
any_behind = Semicolon ∷ Else ∷ []

abbrev SLaws : Form Token Statement → Form Token Statement → Reader Token Statement → Reader Token Statement → List Terminal → Type 0
SLaws f f' r r' first = Lawful f f' r r' (among first) behind false

-- ---- assignments

bare_laws : (n : ℕ) → Obeys (bare_target n) (bare_target (suc n)) (read_bare_target n) (read_bare_target (suc n)) (Identifier ∷ Left ∷ []) (Extension ∷ Extension ∷ []) false
unfolding read_bare_target
bare_laws n = or_laws (Identifier ∷ []) (Left ∷ []) (Extension ∷ []) (Extension ∷ []) name_tree_laws (set_at_laws n) refl

complemented_laws : (n : ℕ) → Obeys (complemented_at n) (complemented_at (suc n)) (read_complemented_at n) (read_complemented_at (suc n)) (Not ∷ []) (Extension ∷ Extension ∷ []) false
unfolding complemented_at read_complemented_at
complemented_laws zero = too_deep complemented_of (Not ∷ []) (bare_target zero) (read_bare_target zero) (Extension ∷ Extension ∷ [])
complemented_laws (suc n) =
    turned complemented_of (Not ∷ []) (Extension ∷ Extension ∷ []) false
    (then_laws (Not ∷ []) [] (Identifier ∷ Left ∷ []) (Extension ∷ Extension ∷ []) false false (one_laws Not) (bare_laws n) refl)

target_laws : (n : ℕ) → Obeys (target n) (target (suc n)) (read_target n) (read_target (suc n)) assign_starts (Extension ∷ Extension ∷ Extension ∷ Extension ∷ []) false
unfolding target read_target
target_laws n =
    or_laws (Not ∷ []) (Identifier ∷ Left ∷ []) (Extension ∷ Extension ∷ []) (Extension ∷ Extension ∷ []) (complemented_laws n)
    (turned plain_of (Identifier ∷ Left ∷ []) (Extension ∷ Extension ∷ []) false (bare_laws n)) refl

pub assign_laws : (n : ℕ) → Obeys (assign n) (assign (suc n)) (read_assign n) (read_assign (suc n)) assign_starts [] false
unfolding assign read_assign
assign_laws n =
    turned assign_of assign_starts [] false
    (placed_obeys assign_starts []
    (then_laws assign_starts (Extension ∷ Extension ∷ Extension ∷ Extension ∷ []) assigns [] false false (target_laws n)
    (then_laws assigns [] exprs [] false false (some_laws assigns)
    (then_laws exprs behind_expr semicolon [] false false (expr_laws n) (one_laws Semicolon) refl) refl) refl))

assign_trails : (n : ℕ) → SLaws (assign n) (assign (suc n)) (read_assign n) (read_assign (suc n)) assign_starts
assign_trails n = trails assign_starts [] behind (assign_laws n) (λ t x h. refl)

left_false : (a b : Bool) → (a || b) ≡ false → a ≡ false
left_false true b h = h
left_false false b h = refl

dont_care_trails : SLaws dont_care_stmt dont_care_stmt read_dont_care_stmt read_dont_care_stmt (DontCare ∷ [])
unfolding dont_care_stmt read_dont_care_stmt
dont_care_trails = trails (DontCare ∷ []) semicolon behind (turned ADontCare (DontCare ∷ []) semicolon false dont_care_laws) (λ t x h. left_false (among semicolon x) (is_open t && among else_word x) h)

-- ---- WHEN and its ELSE

-- what may go on after the parts may go on after the whole
none_wider : (s e o : Bool) → (s || (true && e)) ≡ false → ((not o && e) || (true && (s || (o && e)))) ≡ false
none_wider true e o h = absurd cc
none_wider false true o h = absurd cc
none_wider false false true h = refl
none_wider false false false h = refl

some_wider : (s e o p : Bool) → (s || ((o || p) && e)) ≡ false → ((not o && (s || (p && e))) || (true && (s || (o && e)))) ≡ false
some_wider true e o p h = absurd cc
some_wider false true true p h = absurd cc
some_wider false true false true h = absurd cc
some_wider false true false false h = refl
some_wider false false true p h = refl
some_wider false false false true h = refl
some_wider false false false false h = refl

module _ (e e' : Form Token Tree) (r r' : Reader Token Tree) (le : Obeys e e' r r' exprs behind_expr false)
    (s s' : Form Token Statement) (q q' : Reader Token Statement) (ls : SLaws s s' q q' stmt_starts) where
  else_laws : Lawful (one Else then s) (one Else then s') (read_one Else then_read q) (read_one Else then_read q') (among else_word) (λ t x. behind t.1 x) false
  else_laws = led_by else_word [] stmt_starts behind (one_laws Else) ls refl

  abbrev part : Statement × Option (Token × Statement) → Token → Bool
  part t x = (not (is_open t.0) && behind_option (among else_word) (λ (u : Token × Statement) (y : Token). behind u.1 y) t.1 x) || (true && behind t.0 x)

  when_wider : (w : Token) (c : Tree) (t : Token) (a : Statement) (u : Option (Token × Statement)) (x : Token) → behind (when_of (w, (c, (t, (a, u))))) x ≡ false → part (a, u) x ≡ false
  when_wider w c t a None x h = none_wider (among semicolon x) (among else_word x) (is_open a) h
  when_wider w c t a (Some b) x h = some_wider (among semicolon x) (among else_word x) (is_open a) (is_open b.1) h

  when_laws : SLaws (when e s) (when e' s') (read_when r q) (read_when r' q') (When ∷ [])
  unfolding when read_when
  when_laws =
      made_laws when_of _ _ _ _ (among (When ∷ [])) (λ (t : Token × (Tree × (Token × (Statement × Option (Token × Statement))))) (x : Token). part t.1.1.1 x) behind false
      (led_by (When ∷ []) [] exprs (λ (t : Tree × (Token × (Statement × Option (Token × Statement)))) (x : Token). part t.1.1 x) (one_laws When)
      (led_by exprs behind_expr (Then ∷ []) (λ (t : Token × (Statement × Option (Token × Statement))) (x : Token). part t.1 x) le
      (led_by (Then ∷ []) [] stmt_starts part (one_laws Then)
      (part_laws s s' q q' stmt_starts semicolon else_word is_open ls (one Else then s) (one Else then s') (read_one Else then_read q) (read_one Else then_read q') (λ t x. behind t.1 x) else_laws refl) refl) refl) refl)
      (λ t x h. when_wider t.0 t.1.0 t.1.1.0 t.1.1.1.0 t.1.1.1.1 x h)

-- ---- lists of statements, and groups

module _ (s s' : Form Token Statement) (q q' : Reader Token Statement) (ls : SLaws s s' q q' stmt_starts) where
  pub stmts_laws : Obeys (repeated s) (repeated s') (read_stmts q) (read_stmts q') stmt_starts (stmt_starts ++ any_behind) true
  stmts_laws = many_open stmt_starts semicolon else_word any_behind is_open ls refl refl refl

  group_laws : SLaws (group s) (group s') (read_group q) (read_group q') (BraceOpen ∷ [])
  unfolding group read_group
  group_laws =
      trails (BraceOpen ∷ []) semicolon behind
      (turned group_of (BraceOpen ∷ []) semicolon false
      (then_laws (BraceOpen ∷ []) [] (stmt_starts ++ BraceClose ∷ []) semicolon false false (one_laws BraceOpen)
      (then_laws stmt_starts (stmt_starts ++ any_behind) (BraceClose ∷ []) semicolon true false stmts_laws
      (then_laws (BraceClose ∷ []) [] semicolon semicolon false true (one_laws BraceClose) end_laws refl) refl) refl))
      (λ t x h. left_false (among semicolon x) (is_open t && among else_word x) h)

-- ---- statements at each depth

when_deep : (e : Form Token Tree) (r : Reader Token Tree) (s : Form Token Statement) (q : Reader Token Statement) → SLaws nothing (when e s) (read_deep (among (When ∷ []))) (read_when r q) (When ∷ [])
unfolding when read_when
when_deep e r s q =
    opening_laws when_of (among (When ∷ [])) (e then one Then then followed s (λ t. unless (is_open t) None (optional (one Else then s))))
    (r then_read read_one Then then_read read_followed q (λ t. read_unless (is_open t) None (read_optional (among else_word) (read_one Else then_read q)))) behind

group_deep : (s : Form Token Statement) (q : Reader Token Statement) → SLaws nothing (group s) (read_deep (among (BraceOpen ∷ []))) (read_group q) (BraceOpen ∷ [])
unfolding group read_group
group_deep s q = opening_laws group_of (among (BraceOpen ∷ [])) (repeated s then one BraceClose then end) (read_stmts q then_read read_one BraceClose then_read read_end) behind

plain_laws : (n : ℕ) {w w' : Form Token Statement} {r r' : Reader Token Statement} → SLaws w w' r r' (When ∷ [])
    → SLaws (either (assign n) (either dont_care_stmt w)) (either (assign (suc n)) (either dont_care_stmt w')) (read_either (among assign_starts) (read_assign n) (read_either (among (DontCare ∷ [])) read_dont_care_stmt r))
    (read_either (among assign_starts) (read_assign (suc n)) (read_either (among (DontCare ∷ [])) read_dont_care_stmt r')) plain_starts
plain_laws n lw =
    or_trails assign_starts (DontCare ∷ When ∷ []) plain_starts behind (assign_trails n)
    (or_trails (DontCare ∷ []) (When ∷ []) (DontCare ∷ When ∷ []) behind dont_care_trails lw refl refl refl) refl refl refl

pub stmt_laws : (n : ℕ) → SLaws (stmt n) (stmt (suc n)) (read_stmt n) (read_stmt (suc n)) stmt_starts
unfolding stmt read_stmt
stmt_laws zero =
    or_trails plain_starts (BraceOpen ∷ []) stmt_starts behind (plain_laws zero (when_deep (expr zero) (read_expr zero) (stmt zero) (read_stmt zero))) (group_deep (stmt zero) (read_stmt zero)) refl refl refl
stmt_laws (suc n) =
    or_trails plain_starts (BraceOpen ∷ []) stmt_starts behind (plain_laws (suc n) (when_laws _ _ _ _ (expr_laws n) _ _ _ _ (stmt_laws n))) (group_laws _ _ _ _ (stmt_laws n)) refl refl refl

pub plain_stmt_laws : (n : ℕ) → SLaws (plain_stmt n) (plain_stmt (suc n)) (read_plain_stmt n) (read_plain_stmt (suc n)) plain_starts
unfolding plain_stmt read_plain_stmt
plain_stmt_laws zero = plain_laws zero (when_deep (expr zero) (read_expr zero) (stmt zero) (read_stmt zero))
plain_stmt_laws (suc n) = plain_laws (suc n) (when_laws _ _ _ _ (expr_laws n) _ _ _ _ (stmt_laws n))
