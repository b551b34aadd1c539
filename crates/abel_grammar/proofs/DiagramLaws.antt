-- The laws of state diagrams, as they are read: an arm with the `;` after it.
use Rattle.std.proofs.Common.{◌≡◌, ℕ, zero, suc, Bool, true, false, List, [], ◌∷◌, ◌++◌, Option, Some, None, refl, ◌||◌, ◌&&◌, not, is_some}
use Rattle.abel_grammar.proofs.Common.{Form, ◌then◌, followed, either, optional, repeated, nothing, Reader, ◌then_read◌, read_followed, read_either, read_optional, read_deep, unless, read_unless, Place, Token, Tree, Statement, Branch, Terminal, Semicolon, Colon, Then, Else, BraceOpen, BraceClose, With, Endwith, Goto, If, Case, Endcase, number_of, terminal_of, among, one, end, read_one, read_end, expr, read_expr, stmt, plain_stmt, plain_starts, stmt_starts, read_stmts, read_stmt, read_plain_stmt, braced_of, braced, listed_of, listed, with_of, with_part, goal_of, goal, behind_goto, behind_word, is_open_arm, is_closed, read_braced, read_listed, read_with_part, read_goal, Ended, if_ended_of, choice_ended_of, case_ended_of, read_allowed, read_if, read_choice, read_choices, read_case, read_goal_arm, goal_starts, read_arm, read_goto, read_leading, branch_in, read_trans, trans_starts}
use Rattle.abel_grammar.proofs.Laws.{Lawful}
use Rattle.abel_grammar.proofs.TokenLaws.{given_laws}
use Rattle.abel_grammar.proofs.MadeLaws.{made_laws, relaxed_laws}
use Rattle.abel_grammar.proofs.FollowedLaws.{followed_laws}
use Rattle.abel_grammar.proofs.FurtherLaws.{opening_laws, nothing_laws}
use Rattle.abel_grammar.proofs.OptionalLaws.{behind_option}
use Rattle.abel_grammar.proofs.SharpLaws.{option_sharp, unless_sharp, spelled_sharp}
use Rattle.abel_grammar.proofs.ClassLaws as laws
use Rattle.abel_grammar.proofs.EndedForms.{allowed, if_ended, choice_ended, case_ended, goal_ended, arm_ended, goto_ended, leading_ended, trans_ended}
use Rattle.abel_grammar.proofs.Sets.{Obeys, disjoint, subset, one_laws, then_laws, or_laws, perhaps, any_number, turned, too_deep, placed_obeys, led_by, led_by_some, or_trails, all_behind}
use Rattle.abel_grammar.proofs.ExpressionLaws.{exprs, behind_expr, expr_laws}
use Rattle.abel_grammar.proofs.StatementLaws.{behind, any_behind, stmt_laws, stmts_laws, plain_stmt_laws}

-- ---- WITH

braced_laws : (n : ℕ) → Obeys (braced n) (braced (suc n)) (read_braced n) (read_braced (suc n)) (BraceOpen ∷ []) (Endwith ∷ []) false
unfolding braced read_braced
braced_laws zero =
    too_deep braced_of (BraceOpen ∷ []) (repeated (stmt zero) then one BraceClose then optional (one Endwith)) (read_stmts (read_stmt zero) then_read read_one BraceClose then_read read_optional (among (Endwith ∷ [])) (read_one Endwith)) (Endwith ∷ [])
braced_laws (suc n) =
    turned braced_of (BraceOpen ∷ []) (Endwith ∷ []) false
    (then_laws (BraceOpen ∷ []) [] (stmt_starts ++ BraceClose ∷ []) (Endwith ∷ []) false false (one_laws BraceOpen)
    (then_laws stmt_starts (stmt_starts ++ any_behind) (BraceClose ∷ []) (Endwith ∷ []) true false (stmts_laws _ _ _ _ (stmt_laws n))
    (then_laws (BraceClose ∷ []) [] (Endwith ∷ []) (Endwith ∷ []) false true (one_laws BraceClose) (perhaps (Endwith ∷ []) [] (one_laws Endwith)) refl) refl) refl)

plain_any : (n : ℕ) → Obeys (plain_stmt n) (plain_stmt (suc n)) (read_plain_stmt n) (read_plain_stmt (suc n)) plain_starts any_behind false
plain_any n = relaxed_laws _ _ _ _ (among plain_starts) (among plain_starts) behind (λ (t : Statement) (x : Token). among any_behind x) false (plain_stmt_laws n) (λ x h. h) (all_behind (Semicolon ∷ []) (Else ∷ []) any_behind Rattle.abel_grammar.specs.Statements.is_open refl refl)

listed_laws : (n : ℕ) → Obeys (listed n) (listed (suc n)) (read_listed n) (read_listed (suc n)) (plain_starts ++ Endwith ∷ []) [] false
unfolding listed read_listed
listed_laws n =
    turned listed_of (plain_starts ++ Endwith ∷ []) [] false
    (then_laws plain_starts (plain_starts ++ ((stmt_starts ++ any_behind) ++ any_behind)) (Endwith ∷ []) [] true false
    (perhaps plain_starts ((stmt_starts ++ any_behind) ++ any_behind)
    (then_laws plain_starts any_behind stmt_starts (stmt_starts ++ any_behind) false true (plain_any n) (stmts_laws _ _ _ _ (stmt_laws n)) refl)) (one_laws Endwith) refl)

with_laws : (n : ℕ) → Obeys (with_part n) (with_part (suc n)) (read_with_part n) (read_with_part (suc n)) (With ∷ []) (Endwith ∷ []) false
unfolding with_part read_with_part
with_laws zero = too_deep with_of (With ∷ []) (either (braced zero) (listed zero)) (read_either (among (BraceOpen ∷ [])) (read_braced zero) (read_listed zero)) (Endwith ∷ [])
with_laws (suc n) =
    turned with_of (With ∷ []) (Endwith ∷ []) false
    (then_laws (With ∷ []) [] (BraceOpen ∷ plain_starts ++ Endwith ∷ []) (Endwith ∷ []) false false (one_laws With)
    (or_laws (BraceOpen ∷ []) (plain_starts ++ Endwith ∷ []) (Endwith ∷ []) [] (braced_laws n) (listed_laws n) refl) refl)

-- ---- goals

abbrev behind_goal : List Terminal
behind_goal = (With ∷ Endwith ∷ []) ++ behind_expr

pub goal_laws : (n : ℕ) → Obeys (goal n) (goal (suc n)) (read_goal n) (read_goal (suc n)) exprs behind_goal false
unfolding goal read_goal
goal_laws n =
    turned goal_of exprs behind_goal false
    (placed_obeys exprs behind_goal
    (then_laws exprs behind_expr (With ∷ []) (With ∷ Endwith ∷ []) false true (expr_laws n) (perhaps (With ∷ []) (Endwith ∷ []) (with_laws n)) refl))

-- ---- arms with the `;` after them

-- what may go on after any of them, and after one with an open IF alone
abbrev behind_arm : List Terminal
behind_arm = Semicolon ∷ behind_goal

abbrev else_word : List Terminal
else_word = Else ∷ []

abbrev is_open_ended : Ended → Bool
is_open_ended x = is_open_arm x.0

-- after an arm with its `;` an ELSE alone may go on
abbrev pub behind_ended : Ended → Token → Bool
behind_ended t x = (not (is_some t.1) && among behind_arm x) || (is_open_arm t.0 && among else_word x)

abbrev ELaws : Form Token Ended → Form Token Ended → Reader Token Ended → Reader Token Ended → List Terminal → Type 0
ELaws f f' r r' first = Lawful f f' r r' (among first) behind_ended false

left_false : (a b : Bool) → (a || b) ≡ false → a ≡ false
left_false true b h = h
left_false false b h = refl

-- what may go on after a form and its `;`
end_wider : (goes : List Terminal) → subset goes behind_arm ≡ true → subset (Semicolon ∷ []) behind_arm ≡ true → (t : Ended) (x : Token) → behind_ended t x ≡ false
    → (behind_option (among (Semicolon ∷ [])) (λ (u : Token) (y : Token). among [] y) t.1 x || (not (is_some t.1) && among goes x)) ≡ false
end_wider goes d e (b, None) x h =
    let k = left_false (among behind_arm x) (is_open_arm b && among else_word x) h in
    both (among (Semicolon ∷ []) x) (among goes x) (laws.outside number_of terminal_of (Semicolon ∷ []) behind_arm e x k) (laws.outside number_of terminal_of goes behind_arm d x k)
  where
    both : (p q : Bool) → p ≡ false → q ≡ false → (p || (true && q)) ≡ false
    both true q h k = absurd cc
    both false q h k = k
end_wider goes d e (b, Some s) x h = refl

goal_ended_laws : (n : ℕ) → ELaws (goal_ended n) (goal_ended (suc n)) (read_goal_arm n) (read_goal_arm (suc n)) goal_starts
unfolding goal_ended read_goal_arm
goal_ended_laws n =
    relaxed_laws _ _ _ _ (among goal_starts) (among goal_starts) _ behind_ended false
    (option_sharp _ _ _ _ (among goal_starts) (λ t x. among behind_goal x)
    (turned behind_goto goal_starts behind_goal false (then_laws (Goto ∷ []) (Goto ∷ []) exprs behind_goal true false (perhaps (Goto ∷ []) [] (one_laws Goto)) (goal_laws n) refl))
    (one Semicolon) (one Semicolon) (read_one Semicolon) (read_one Semicolon) (among (Semicolon ∷ [])) (λ u y. among [] y) (one_laws Semicolon) (λ t x h. laws.among_apart number_of terminal_of (Semicolon ∷ []) behind_goal refl x h))
    (λ x h. h) (end_wider behind_goal refl refl)

-- ---- IF and its ELSE

none_wider : (v e o : Bool) → (v || (true && e)) ≡ false → ((not o && e) || (true && (v || (o && e)))) ≡ false
none_wider true e o h = absurd cc
none_wider false true o h = absurd cc
none_wider false false true h = refl
none_wider false false false h = refl

some_wider : (v e o p w : Bool) → (v || ((o || p) && e)) ≡ false → ((not o && (v || (p && e))) || (false && w)) ≡ false
some_wider true e o p w h = absurd cc
some_wider false true true p w h = absurd cc
some_wider false true false true w h = absurd cc
some_wider false true false false w h = refl
some_wider false false true p w h = refl
some_wider false false false true w h = refl
some_wider false false false false w h = refl

-- what an arm may start with
abbrev arm_starts : List Terminal
arm_starts = goal_starts ++ If ∷ Case ∷ []

-- ---- the `;` after it

abbrev behind_end : Option Token → Token → Bool
behind_end z x = behind_option (among (Semicolon ∷ [])) (λ (u : Token) (y : Token). among [] y) z x

led_by_end : {A : Type 0} {a a' : Form Token A} {ra ra' : Reader Token A} (fa : List Terminal) → Obeys a a' ra ra' fa [] false → Lawful (a then end) (a' then end) (ra then_read read_end) (ra' then_read read_end) (among fa) (λ t x. behind_end t.1 x) false
led_by_end {A} {a} {a'} {ra} {ra'} fa la =
    relaxed_laws _ _ _ _ (among fa) (among fa) _ (λ (t : A × Option Token) (x : Token). behind_end t.1 x) false
    (option_sharp a a' ra ra' (among fa) (λ t x. among [] x) la (one Semicolon) (one Semicolon) (read_one Semicolon) (read_one Semicolon) (among (Semicolon ∷ [])) (λ u y. among [] y) (one_laws Semicolon) (λ t x h. refl))
    (λ x h. h) (λ t x h. none (behind_end t.1 x) (is_some t.1) h)
  where
    none : (b c : Bool) → b ≡ false → (b || (not c && false)) ≡ false
    none true c h = absurd cc
    none false true h = refl
    none false false h = refl

-- ---- an arm that must have, or may miss, its `;`

allowed_laws : (b : Bool) → Obeys (allowed b) (allowed b) (read_allowed b) (read_allowed b) [] [] true
allowed_laws true = given_laws tt (among []) (λ t x. among [] x)
allowed_laws false = nothing_laws (among []) (λ t x. among [] x) true

abbrev behind_any : List Terminal
behind_any = Else ∷ behind_arm

any_wider : (t : Ended) (x : Token) → among behind_any x ≡ false → behind_ended t x ≡ false
any_wider t x h =
    both (not (is_some t.1)) (among behind_arm x) (is_open_arm t.0) (among else_word x) (laws.outside number_of terminal_of behind_arm behind_any refl x h) (laws.outside number_of terminal_of else_word behind_any refl x h)
  where
    both : (s p o q : Bool) → p ≡ false → q ≡ false → ((s && p) || (o && q)) ≡ false
    both s true o q h k = absurd cc
    both s p o true h k = absurd cc
    both true false true false h k = refl
    both true false false false h k = refl
    both false false true false h k = refl
    both false false false false h k = refl

module _ (e e' : Form Token Tree) (r r' : Reader Token Tree) (le : Obeys e e' r r' exprs behind_expr false)
    (a a' : Form Token Ended) (q q' : Reader Token Ended) (la : ELaws a a' q q' arm_starts) where
  else_laws : Lawful (one Else then a) (one Else then a') (read_one Else then_read q) (read_one Else then_read q') (among else_word) (λ t x. behind_ended t.1 x) false
  else_laws = led_by else_word [] arm_starts behind_ended (one_laws Else) la refl

  abbrev part : Ended × Option (Token × Ended) → Token → Bool
  part t x = (not (is_open_ended t.0) && behind_option (among else_word) (λ (u : Token × Ended) (y : Token). behind_ended u.1 y) t.1 x) || (not (is_some t.1) && behind_ended t.0 x)

  if_wider : (w : Token) (c : Tree) (t : Token) (b : Ended) (u : Option (Token × Ended)) (x : Token) → behind_ended (if_ended_of (w, (c, (t, (b, u))))) x ≡ false → part (b, u) x ≡ false
  if_wider w c t (b, s) None x h = none_wider (not (is_some s) && among behind_arm x) (among else_word x) (is_open_arm b) h
  if_wider w c t (b, s) (Some (k, (d, z))) x h = some_wider (not (is_some z) && among behind_arm x) (among else_word x) (is_open_arm b) (is_open_arm d) (behind_ended (b, s) x) h

  arm_apart : (t : Ended) (x : Token) → is_open_ended t ≡ false → among else_word x ≡ true → behind_ended t x ≡ false
  arm_apart t x o h = rw o (closed (not (is_some t.1)) (among behind_arm x) (among else_word x) (laws.among_apart number_of terminal_of else_word behind_arm refl x h))
    where
      closed : (s p q : Bool) → p ≡ false → ((s && p) || (false && q)) ≡ false
      closed true true q h = absurd cc
      closed true false q h = refl
      closed false p q h = refl

  if_laws : ELaws (if_ended e a) (if_ended e' a') (read_if r q) (read_if r' q') (If ∷ [])
  unfolding if_ended read_if
  if_laws =
      made_laws if_ended_of _ _ _ _ (among (If ∷ [])) (λ (t : Token × (Tree × (Token × (Ended × Option (Token × Ended))))) (x : Token). part t.1.1.1 x) behind_ended false
      (led_by (If ∷ []) [] exprs (λ (t : Tree × (Token × (Ended × Option (Token × Ended)))) (x : Token). part t.1.1 x) (one_laws If)
      (led_by exprs behind_expr (Then ∷ []) (λ (t : Token × (Ended × Option (Token × Ended))) (x : Token). part t.1 x) le
      (led_by (Then ∷ []) [] arm_starts part (one_laws Then)
      (unless_sharp a a' q q' (among arm_starts) behind_ended la (one Else then a) (one Else then a') (read_one Else then_read q) (read_one Else then_read q') (among else_word) (λ t x. behind_ended t.1 x) else_laws is_open_ended arm_apart) refl) refl) refl)
      (λ t x h. if_wider t.0 t.1.0 t.1.1.0 t.1.1.1.0 t.1.1.1.1 x h)

  -- an arm whose `;` is there: an ELSE alone may go on
  ended_laws : Lawful (followed a (λ b. allowed (is_some b.1))) (followed a' (λ b. allowed (is_some b.1))) (read_followed q (λ b. read_allowed (is_some b.1))) (read_followed q' (λ b. read_allowed (is_some b.1))) (among arm_starts) (λ t x. among else_word x) false
  ended_laws =
      spelled_sharp _ _ _ _ (among arm_starts) _ (λ (t : Ended × Unit {0}) (x : Token). among else_word x) false
      (relaxed_laws _ _ _ _ _ (among arm_starts) _ (λ (t : Ended × Unit {0}) (x : Token). false || (true && behind_ended t.0 x)) false
      (followed_laws a a' (λ b. allowed (is_some b.1)) (λ b. allowed (is_some b.1)) q q' (λ b. read_allowed (is_some b.1)) (λ b. read_allowed (is_some b.1)) (among arm_starts) (λ b x. among [] x) (λ x. among [] x) behind_ended (λ b u x. among [] x) false true
      la (λ b. allowed_laws (is_some b.1)) (λ t x h. absurd cc) (λ t x h. h)) (λ x h. first_only (among arm_starts x) h) (λ t x h. h))
      (λ ts t rest x s h. with_end t.0 t.1 x (s.0) rest s.2 h)
    where
      first_only : (b : Bool) → (b || (false && false)) ≡ true → b ≡ true
      first_only true e = refl
      first_only false e = absurd cc

      with_end : (b : Ended) (u : Unit {0}) (x : Token) (mid rest : List Token) → (allowed (is_some b.1)).spells mid u rest → among else_word x ≡ false → (false || (true && behind_ended b x)) ≡ false
      with_end (b, None) u x mid rest s h = absurd s
      with_end (b, Some z) u x mid rest s h = rw h (last (is_open_arm b))
        where
          last : (o : Bool) → (false || (o && false)) ≡ false
          last true = refl
          last false = refl

  pub choice_laws : Obeys (choice_ended e a) (choice_ended e' a') (read_choice r q) (read_choice r' q') exprs else_word false
  unfolding choice_ended read_choice
  choice_laws =
      turned choice_ended_of exprs else_word false
      (then_laws exprs behind_expr (Colon ∷ []) else_word false false le
      (then_laws (Colon ∷ []) [] arm_starts else_word false false (one_laws Colon) ended_laws refl) refl)

  pub choices_laws : Obeys (repeated (choice_ended e a)) (repeated (choice_ended e' a')) (read_choices r q) (read_choices r' q') exprs (exprs ++ else_word) true
  choices_laws = any_number exprs else_word choice_laws refl

  endcase_laws : Lawful (one Endcase then end) (one Endcase then end) (read_one Endcase then_read read_end) (read_one Endcase then_read read_end) (among (Endcase ∷ [])) (λ t x. behind_end t.1 x) false
  endcase_laws = led_by_end (Endcase ∷ []) (one_laws Endcase)

  case_laws : ELaws (case_ended e a) (case_ended e' a') (read_case r q) (read_case r' q') (Case ∷ [])
  unfolding case_ended read_case
  case_laws =
      made_laws case_ended_of _ _ _ _ (among (Case ∷ [])) (λ (t : Token × (List (Tree × (Place × Branch)) × (Token × Option Token))) (x : Token). behind_end t.1.1.1 x) behind_ended false
      (led_by (Case ∷ []) [] (exprs ++ Endcase ∷ []) (λ (t : List (Tree × (Place × Branch)) × (Token × Option Token)) (x : Token). behind_end t.1.1 x) (one_laws Case)
      (led_by_some exprs (exprs ++ else_word) (Endcase ∷ []) (exprs ++ Endcase ∷ []) (λ (t : Token × Option Token) (x : Token). behind_end t.1 x) choices_laws endcase_laws refl refl refl) refl)
      (λ t x h. case_wider t.0 t.1.0 t.1.1.0 t.1.1.1 x h)
    where
      case_wider : (w : Token) (l : List (Tree × (Place × Branch))) (k : Token) (z : Option Token) (x : Token) → behind_ended (case_ended_of (w, (l, (k, z)))) x ≡ false → behind_end z x ≡ false
      case_wider w l k None x h = laws.outside number_of terminal_of (Semicolon ∷ []) behind_arm refl x (left_false (among behind_arm x) (false && among else_word x) h)
      case_wider w l k (Some z) x h = refl

-- ---- arms at each depth

if_deep : (e : Form Token Tree) (r : Reader Token Tree) (a : Form Token Ended) (q : Reader Token Ended) → ELaws nothing (if_ended e a) (read_deep (among (If ∷ []))) (read_if r q) (If ∷ [])
unfolding if_ended read_if
if_deep e r a q =
    opening_laws if_ended_of (among (If ∷ [])) (e then one Then then followed a (λ b. unless (is_open_arm b.0) None (optional (one Else then a))))
    (r then_read read_one Then then_read read_followed q (λ b. read_unless (is_open_arm b.0) None (read_optional (among else_word) (read_one Else then_read q)))) behind_ended

case_deep : (e : Form Token Tree) (r : Reader Token Tree) (a : Form Token Ended) (q : Reader Token Ended) → ELaws nothing (case_ended e a) (read_deep (among (Case ∷ []))) (read_case r q) (Case ∷ [])
unfolding case_ended read_case
case_deep e r a q = opening_laws case_ended_of (among (Case ∷ [])) (repeated (choice_ended e a) then one Endcase then end) (read_choices r q then_read read_one Endcase then_read read_end) behind_ended

arms_laws : {g g' i i' c c' : Form Token Ended} {rg rg' ri ri' rc rc' : Reader Token Ended} (fg : List Terminal) (first : List Terminal) → ELaws g g' rg rg' fg → ELaws i i' ri ri' (If ∷ []) → ELaws c c' rc rc' (Case ∷ [])
    → disjoint (If ∷ Case ∷ []) fg ≡ true → subset fg first ≡ true → subset (If ∷ Case ∷ []) first ≡ true
    → ELaws (either g (either i c)) (either g' (either i' c')) (read_either (among fg) rg (read_either (among (If ∷ [])) ri rc)) (read_either (among fg) rg' (read_either (among (If ∷ [])) ri' rc')) first
arms_laws fg first lg li lc d e h =
    or_trails fg (If ∷ Case ∷ []) first behind_ended lg (or_trails (If ∷ []) (Case ∷ []) (If ∷ Case ∷ []) behind_ended li lc refl refl refl) d e h

pub arm_ended_laws : (n : ℕ) → ELaws (arm_ended n) (arm_ended (suc n)) (read_arm n) (read_arm (suc n)) arm_starts
unfolding arm_ended read_arm
arm_ended_laws zero =
    arms_laws goal_starts arm_starts (goal_ended_laws zero) (if_deep (expr zero) (read_expr zero) (arm_ended zero) (read_arm zero)) (case_deep (expr zero) (read_expr zero) (arm_ended zero) (read_arm zero)) refl refl refl
arm_ended_laws (suc n) =
    arms_laws goal_starts arm_starts (goal_ended_laws (suc n)) (if_laws _ _ _ _ (expr_laws n) _ _ _ _ (arm_ended_laws n)) (case_laws _ _ _ _ (expr_laws n) _ _ _ _ (arm_ended_laws n)) refl refl refl

-- ---- transitions

goto_laws : (n : ℕ) → ELaws (goto_ended n) (goto_ended (suc n)) (read_goto n) (read_goto (suc n)) (Goto ∷ [])
unfolding goto_ended read_goto
goto_laws n =
    relaxed_laws _ _ _ _ (among (Goto ∷ [])) (among (Goto ∷ [])) _ behind_ended false
    (option_sharp _ _ _ _ (among (Goto ∷ [])) (λ t x. among behind_goal x)
    (turned behind_word (Goto ∷ []) behind_goal false (then_laws (Goto ∷ []) [] exprs behind_goal false false (one_laws Goto) (goal_laws n) refl))
    (one Semicolon) (one Semicolon) (read_one Semicolon) (read_one Semicolon) (among (Semicolon ∷ [])) (λ u y. among [] y) (one_laws Semicolon) (λ t x h. laws.among_apart number_of terminal_of (Semicolon ∷ []) behind_goal refl x h))
    (λ x h. h) (end_wider behind_goal refl refl)

abbrev pub behind_trans : List Terminal
behind_trans = Else ∷ behind_arm

leading_laws : (n : ℕ) → ELaws (leading_ended n) (leading_ended (suc n)) (read_leading n) (read_leading (suc n)) trans_starts
unfolding leading_ended read_leading
leading_laws zero =
    arms_laws (Goto ∷ []) trans_starts (goto_laws zero) (if_deep (expr zero) (read_expr zero) (arm_ended zero) (read_arm zero)) (case_deep (expr zero) (read_expr zero) (arm_ended zero) (read_arm zero)) refl refl refl
leading_laws (suc n) =
    arms_laws (Goto ∷ []) trans_starts (goto_laws (suc n)) (if_laws _ _ _ _ (expr_laws n) _ _ _ _ (arm_ended_laws n)) (case_laws _ _ _ _ (expr_laws n) _ _ _ _ (arm_ended_laws n)) refl refl refl

pub trans_read_laws : (n : ℕ) → Obeys (trans_ended n) (trans_ended (suc n)) (read_trans n) (read_trans (suc n)) trans_starts behind_trans false
unfolding trans_ended read_trans
trans_read_laws n =
    turned branch_in trans_starts behind_trans false
    (laws.in_turn number_of terminal_of _ _ _ _ _ _ _ _ trans_starts behind_trans [] [] false true (leading_any n) (λ b. allowed_laws (is_closed b.0 || is_some b.1)) refl)
  where
    leading_any : (n : ℕ) → Obeys (leading_ended n) (leading_ended (suc n)) (read_leading n) (read_leading (suc n)) trans_starts behind_trans false
    leading_any n = relaxed_laws _ _ _ _ (among trans_starts) (among trans_starts) behind_ended (λ (t : Ended) (x : Token). among behind_trans x) false (leading_laws n) (λ x h. h) any_wider
