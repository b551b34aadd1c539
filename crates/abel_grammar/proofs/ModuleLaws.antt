-- The laws of states, sections and modules.
use Rattle.std.proofs.Common.{◌≡◌, ℕ, suc, inl, inr, Bool, true, false, List, [], ◌∷◌, ◌++◌, length, refl, ap, arith, length-append, ◌||◌, ◌&&◌, not}
use Rattle.abel_grammar.proofs.Common.{◌then◌, followed, repeated, SpellsList, ◌then_read◌, read_followed, read_repeated, flatten, unless, read_unless, Token, Tree, Statement, Branch, Declaration, StateTree, SectionTree, DontCareSection, Terminal, Identifier, Text, Module, Title, End, Semicolon, Comma, Colon, DontCare, State, StateDiagram, Declarations, Equations, TruthTable, TestVectors, Not, Left, When, BraceOpen, Else, number_of, terminal_of, among, stmt, stmt_starts, read_stmts, read_stmt, option_words, decl_starts, other_starts, trans, state_of, state, diagram_of, diagram, trans_starts, read_trans, read_state, read_diagram, options, declarations_of, declarations, equations_of, equations, proper, dont_care_section, is_empty, last_is_bare, takes_dont_care, section_group_of, sections, decls_of, first_decls, title_of, title, module_of, source, read_options, read_declarations, read_equations, read_proper, read_dont_care_section, proper_starts, read_sections, read_first_decls, read_title, read_source}
use Rattle.abel_grammar.proofs.Laws.{Lawful}
use Rattle.abel_grammar.proofs.SameForms.{same_laws}
use Rattle.abel_grammar.proofs.MadeLaws.{made_laws, relaxed_laws}
use Rattle.abel_grammar.proofs.FurtherLaws.{unless_laws}
use Rattle.abel_grammar.proofs.SharpLaws.{followed_sharp, repeated_sharp, last_goes}
use Rattle.abel_grammar.proofs.ClassLaws as laws
use Rattle.abel_grammar.proofs.Sets.{Obeys, Keeps, one_laws, then_laws, perhaps, any_number, turned, led_by, led_by_less, or_trails, trails}
use Rattle.abel_grammar.proofs.ExpressionLaws.{exprs, behind_expr, name_laws, text_laws, end_laws, dont_care_laws, expr_laws}
use Rattle.abel_grammar.proofs.StatementLaws.{any_behind, stmt_laws, stmts_laws}
use Rattle.abel_grammar.proofs.DeclarationLaws.{option_laws, other_decl_laws, decls_laws}
use Rattle.abel_grammar.proofs.TableLaws.{table_laws, vectors_laws}
use Rattle.abel_grammar.proofs.DiagramLaws.{behind_trans, trans_read_laws}
use Rattle.abel_grammar.proofs.DiagramForms.{trans_same}

-- ---- transitions and states

pub trans_laws : (n : ℕ) → Obeys (trans n) (trans (suc n)) (read_trans n) (read_trans (suc n)) trans_starts behind_trans false
trans_laws n = same_laws _ _ _ _ _ _ (among trans_starts) (λ t x. among behind_trans x) false (trans_same n) (trans_same (suc n)) (trans_read_laws n)

abbrev many_trans : List Terminal
many_trans = trans_starts ++ behind_trans

pub transitions_laws : (n : ℕ) → Obeys (repeated (trans n)) (repeated (trans (suc n))) (read_repeated (among trans_starts) (read_trans n)) (read_repeated (among trans_starts) (read_trans (suc n))) trans_starts many_trans true
transitions_laws n = any_number trans_starts behind_trans (trans_laws n) refl

abbrev many_stmts : List Terminal
many_stmts = stmt_starts ++ any_behind

abbrev Parts : Type 0
Parts = List Statement × List Branch

abbrev full : List Branch → Bool
full l = not (is_empty l)

transitions_fill : (n : ℕ) (mid : List Token) (l : List Branch) → SpellsList (trans n).spells mid l mid → full l ≡ true → ⊥
transitions_fill n mid [] s e = cc
transitions_fill n mid (b ∷ l) (m, h, more) e =
    elim ((trans_laws n).takes mid b m h) [
      | inl k ↦ let q = (transitions_laws n).place m l mid more in omega (arith, k.1, ap length q.1, length-append q.0 mid)
      | inr (d, k) ↦ cc
    ]

abbrev behind_parts : Parts → Token → Bool
behind_parts t x = among many_trans x || (not (full t.1) && among many_stmts x)

or_one : (f g : Bool) → (f || (true && g)) ≡ true → (f || g) ≡ true
or_one f g e = e

parts_laws : (n : ℕ) → Lawful (repeated (stmt n) then repeated (trans n)) (repeated (stmt (suc n)) then repeated (trans (suc n))) (read_stmts (read_stmt n) then_read read_repeated (among trans_starts) (read_trans n))
    (read_stmts (read_stmt (suc n)) then_read read_repeated (among trans_starts) (read_trans (suc n))) (among (stmt_starts ++ trans_starts)) behind_parts true
parts_laws n =
    relaxed_laws _ _ _ _ _ (among (stmt_starts ++ trans_starts)) _ behind_parts true
    (followed_sharp _ _ (λ _. repeated (trans n)) (λ _. repeated (trans (suc n))) _ _ (λ _. read_repeated (among trans_starts) (read_trans n)) (λ _. read_repeated (among trans_starts) (read_trans (suc n)))
    (among stmt_starts) (λ t. among trans_starts) (among trans_starts) (λ t x. among many_stmts x) (λ t u x. among many_trans x) true true
    (stmts_laws _ _ _ _ (stmt_laws n)) (λ _. transitions_laws n) (λ t x h. laws.among_apart number_of terminal_of trans_starts many_stmts refl x h) (λ t x h. h) full (λ t mid u s e. transitions_fill n mid u s e))
    (λ x h. either_one (among stmt_starts x) (among trans_starts x) (among (stmt_starts ++ trans_starts) x)
    (λ k. laws.among_within number_of terminal_of stmt_starts (stmt_starts ++ trans_starts) refl x k) (λ k. laws.among_within number_of terminal_of trans_starts (stmt_starts ++ trans_starts) refl x k) h)
    (λ t x h. h)
  where
    either_one : (p q r : Bool) → (p ≡ true → r ≡ true) → (q ≡ true → r ≡ true) → (p || (true && q)) ≡ true → r ≡ true
    either_one true q r f g h = f refl
    either_one false q r f g h = g h

-- what may go on after any state, and a dc after one without transitions
abbrev behind_any_state : List Terminal
behind_any_state = many_trans ++ Not ∷ Identifier ∷ Left ∷ When ∷ BraceOpen ∷ Semicolon ∷ Else ∷ []

abbrev dc : List Terminal
dc = DontCare ∷ []

abbrev behind_state : StateTree → Token → Bool
behind_state s x = among behind_any_state x || (is_empty s.transitions && among dc x)

left_false : (a b : Bool) → (a || b) ≡ false → a ≡ false
left_false true b h = h
left_false false b h = refl

right_false : (a b : Bool) → (a || b) ≡ false → b ≡ false
right_false true b h = absurd cc
right_false false b h = h

or_falses : (a b : Bool) → a ≡ false → b ≡ false → (a || b) ≡ false
or_falses true b h k = absurd cc
or_falses false b h k = k

stmts_false : (x : Token) → among behind_any_state x ≡ false → among dc x ≡ false → among many_stmts x ≡ false
stmts_false x h k = laws.outside number_of terminal_of many_stmts (DontCare ∷ behind_any_state) refl x (dc_and (DontCare ∷ []) k h)
  where
    dc_and : (ks : List Terminal) → among dc x ≡ false → among behind_any_state x ≡ false → among (DontCare ∷ behind_any_state) x ≡ false
    dc_and ks a b = join (left_false _ _ a) b
      where
        join : {p q : Bool} → p ≡ false → q ≡ false → (p || q) ≡ false
        join {p} {q} e f = or_falses p q e f

parts_false : (l : List Branch) (x : Token) → (among behind_any_state x || (is_empty l && among dc x)) ≡ false → (among many_trans x || (not (full l) && among many_stmts x)) ≡ false
parts_false [] x h =
    let a = left_false (among behind_any_state x) (true && among dc x) h in
    or_falses (among many_trans x) (among many_stmts x) (laws.outside number_of terminal_of many_trans behind_any_state refl x a) (stmts_false x a (right_false (among behind_any_state x) (true && among dc x) h))
parts_false (b ∷ l) x h =
    let a = left_false (among behind_any_state x) (false && among dc x) h in
    or_falses (among many_trans x) (false && among many_stmts x) (laws.outside number_of terminal_of many_trans behind_any_state refl x a) refl

drop_none : (b : Bool) → b ≡ false → (b || (true && false)) ≡ false
drop_none true e = absurd cc
drop_none false e = refl

pub state_laws : (n : ℕ) → Lawful (state n) (state (suc n)) (read_state n) (read_state (suc n)) (among (State ∷ [])) behind_state false
unfolding state read_state
state_laws n =
    made_laws state_of _ _ _ _ (among (State ∷ [])) (λ (t : Token × (Tree × (Token × Parts))) (x : Token). behind_parts t.1.1.1 x || (true && among [] x)) behind_state false
    (led_by (State ∷ []) [] exprs (λ (t : Tree × (Token × Parts)) (x : Token). behind_parts t.1.1 x || (true && among [] x)) (one_laws State)
    (led_by exprs behind_expr (Colon ∷ []) (λ (t : Token × Parts) (x : Token). behind_parts t.1 x || (true && among [] x)) (expr_laws n)
    (led_by_less (Colon ∷ []) [] (stmt_starts ++ trans_starts) behind_parts (one_laws Colon) (parts_laws n) refl) refl) refl)
    (λ t x h. drop_none (behind_parts t.1.1.1 x) (parts_false t.1.1.1.1 x h))

-- ---- diagrams

abbrev state_word : List Terminal
state_word = State ∷ []

abbrev gall : List Terminal
gall = DontCare ∷ behind_any_state

state_wider : (s : StateTree) (x : Token) → among gall x ≡ false → behind_state s x ≡ false
state_wider s x h = or_and (among behind_any_state x) (is_empty s.transitions) (among dc x) (laws.outside number_of terminal_of behind_any_state gall refl x h) (laws.outside number_of terminal_of dc gall refl x h)
  where
    or_and : (a b c : Bool) → a ≡ false → c ≡ false → (a || (b && c)) ≡ false
    or_and true b c h k = absurd cc
    or_and false true c h k = k
    or_and false false c h k = refl

abbrev behind_states : List StateTree → Token → Bool
behind_states l x = among state_word x || last_goes behind_state l x

states_laws : (n : ℕ) → Lawful (repeated (state n)) (repeated (state (suc n))) (read_repeated (among state_word) (read_state n)) (read_repeated (among state_word) (read_state (suc n))) (among state_word) behind_states true
states_laws n = repeated_sharp _ _ _ _ (among state_word) (among gall) behind_state (state_laws n) state_wider (λ x h. laws.among_apart number_of terminal_of state_word gall refl x h)

-- ---- sections

-- what may go on after any section, and a dc after one that takes it
abbrev pub behind_any_section : List Terminal
behind_any_section = State ∷ Comma ∷ behind_any_state ++ behind_expr ++ exprs ++ option_words

abbrev behind_section : SectionTree → Token → Bool
behind_section s x = among behind_any_section x || (takes_dont_care s && among dc x)

last_false : (l : List StateTree) (x : Token) → among behind_any_state x ≡ false → (last_is_bare l && among dc x) ≡ false → last_goes behind_state l x ≡ false
last_false [] x h k = refl
last_false (s ∷ []) x h k = or_falses (among behind_any_state x) (is_empty s.transitions && among dc x) h k
last_false (s ∷ t ∷ l) x h k = last_false (t ∷ l) x h k

diagram_false : (l : List StateTree) (x : Token) → (among behind_any_section x || (last_is_bare l && among dc x)) ≡ false → (behind_states l x || (true && among behind_expr x)) ≡ false
diagram_false l x h =
    let a = left_false (among behind_any_section x) (last_is_bare l && among dc x) h in
    or_falses (behind_states l x) (true && among behind_expr x)
    (or_falses (among state_word x) (last_goes behind_state l x) (laws.outside number_of terminal_of state_word behind_any_section refl x a)
    (last_false l x (laws.outside number_of terminal_of behind_any_state behind_any_section refl x a) (right_false (among behind_any_section x) (last_is_bare l && among dc x) h)))
    (laws.outside number_of terminal_of behind_expr behind_any_section refl x a)

diagram_laws : (n : ℕ) → Lawful (diagram n) (diagram (suc n)) (read_diagram n) (read_diagram (suc n)) (among (StateDiagram ∷ [])) behind_section false
unfolding diagram read_diagram
diagram_laws n =
    made_laws diagram_of _ _ _ _ (among (StateDiagram ∷ [])) (λ (t : Token × (Tree × List StateTree)) (x : Token). behind_states t.1.1 x || (true && among behind_expr x)) behind_section false
    (led_by (StateDiagram ∷ []) [] exprs (λ (t : Tree × List StateTree) (x : Token). behind_states t.1 x || (true && among behind_expr x)) (one_laws StateDiagram)
    (led_by_less exprs behind_expr state_word behind_states (expr_laws n) (states_laws n) refl) refl)
    (λ t x h. diagram_false t.1.1 x h)

with_dc : (goes : List Terminal) (x : Token) → among behind_any_section x ≡ false → among dc x ≡ false → laws.subset number_of terminal_of goes (DontCare ∷ behind_any_section) ≡ true → among goes x ≡ false
with_dc goes x h k d = laws.outside number_of terminal_of goes (DontCare ∷ behind_any_section) d x (join (left_false _ _ k) h)
  where
    join : {p q : Bool} → p ≡ false → q ≡ false → (p || q) ≡ false
    join {p} {q} e f = or_falses p q e f

declarations_laws : (n : ℕ) → Lawful (declarations n) (declarations (suc n)) (read_declarations n) (read_declarations (suc n)) (among (Declarations ∷ [])) behind_section false
unfolding declarations read_declarations
declarations_laws n =
    made_laws declarations_of _ _ _ _ (among (Declarations ∷ [])) (λ (t : Token × List Declaration) (x : Token). among (decl_starts ++ Semicolon ∷ Comma ∷ []) x) behind_section false
    (then_laws (Declarations ∷ []) [] decl_starts (decl_starts ++ Semicolon ∷ Comma ∷ []) false true (one_laws Declarations) (decls_laws n) refl)
    (λ t x h. with_dc (decl_starts ++ Semicolon ∷ Comma ∷ []) x (left_false (among behind_any_section x) (true && among dc x) h) (right_false (among behind_any_section x) (true && among dc x) h) refl)

equations_laws : (n : ℕ) → Lawful (equations n) (equations (suc n)) (read_equations n) (read_equations (suc n)) (among (Equations ∷ [])) behind_section false
unfolding equations read_equations
equations_laws n =
    made_laws equations_of _ _ _ _ (among (Equations ∷ [])) (λ (t : Token × List Statement) (x : Token). among many_stmts x) behind_section false
    (then_laws (Equations ∷ []) [] stmt_starts many_stmts false true (one_laws Equations) (stmts_laws _ _ _ _ (stmt_laws n)) refl)
    (λ t x h. with_dc many_stmts x (left_false (among behind_any_section x) (true && among dc x) h) (right_false (among behind_any_section x) (true && among dc x) h) refl)

exprs_false : (t : SectionTree) (x : Token) → behind_section t x ≡ false → among exprs x ≡ false
exprs_false t x h = laws.outside number_of terminal_of exprs behind_any_section refl x (left_false (among behind_any_section x) (takes_dont_care t && among dc x) h)

proper_laws : (n : ℕ) → Lawful (proper n) (proper (suc n)) (read_proper n) (read_proper (suc n)) (among proper_starts) behind_section false
unfolding proper read_proper
proper_laws n =
    or_trails (Declarations ∷ []) (Equations ∷ TruthTable ∷ StateDiagram ∷ TestVectors ∷ []) proper_starts behind_section (declarations_laws n)
    (or_trails (Equations ∷ []) (TruthTable ∷ StateDiagram ∷ TestVectors ∷ []) (Equations ∷ TruthTable ∷ StateDiagram ∷ TestVectors ∷ []) behind_section (equations_laws n)
    (or_trails (TruthTable ∷ []) (StateDiagram ∷ TestVectors ∷ []) (TruthTable ∷ StateDiagram ∷ TestVectors ∷ []) behind_section (trails (TruthTable ∷ []) exprs behind_section (table_laws n) exprs_false)
    (or_trails (StateDiagram ∷ []) (TestVectors ∷ []) (StateDiagram ∷ TestVectors ∷ []) behind_section (diagram_laws n) (trails (TestVectors ∷ []) exprs behind_section (vectors_laws n) exprs_false)
    refl refl refl) refl refl refl) refl refl refl) refl refl refl

pub dont_care_section_laws : Keeps dont_care_section read_dont_care_section dc (Semicolon ∷ []) false
unfolding dont_care_section read_dont_care_section
dont_care_section_laws = turned DontCareSection dc (Semicolon ∷ []) false dont_care_laws

dont_cares_laws : Keeps (repeated dont_care_section) (read_repeated (among dc) read_dont_care_section) dc (DontCare ∷ Semicolon ∷ []) true
dont_cares_laws = any_number dc (Semicolon ∷ []) dont_care_section_laws refl

-- what may go on after a section and its dc
abbrev pub behind_group : List Terminal
behind_group = DontCare ∷ Semicolon ∷ behind_any_section

pub groups_laws : (n : ℕ) → Obeys (followed (proper n) (λ s. unless (takes_dont_care s) [] (repeated dont_care_section))) (followed (proper (suc n)) (λ s. unless (takes_dont_care s) [] (repeated dont_care_section)))
    (read_followed (read_proper n) (λ s. read_unless (takes_dont_care s) [] (read_repeated (among dc) read_dont_care_section))) (read_followed (read_proper (suc n)) (λ s. read_unless (takes_dont_care s) [] (read_repeated (among dc) read_dont_care_section)))
    proper_starts behind_group false
groups_laws n =
    relaxed_laws _ _ _ _ _ (among proper_starts) _ (λ (t : SectionTree × List SectionTree) (x : Token). among behind_group x) false
    (unless_laws _ _ _ _ (among proper_starts) behind_section false (proper_laws n) takes_dont_care [] (repeated dont_care_section) (repeated dont_care_section) (read_repeated (among dc) read_dont_care_section) (read_repeated (among dc) read_dont_care_section)
    (among dc) (λ t x. among (DontCare ∷ Semicolon ∷ []) x) true dont_cares_laws free)
    (λ x h. first_only (among proper_starts x) (among dc x) h)
    (λ t x h. both (takes_dont_care t.0) (among (DontCare ∷ Semicolon ∷ []) x) (among behind_any_section x) (among dc x) (laws.outside number_of terminal_of (DontCare ∷ Semicolon ∷ []) behind_group refl x h)
    (laws.outside number_of terminal_of behind_any_section behind_group refl x h) (laws.outside number_of terminal_of dc behind_group refl x h))
  where
    free : (t : SectionTree) (x : Token) → takes_dont_care t ≡ false → among dc x ≡ true → behind_section t x ≡ false
    free t x e h = rw e (closed (among behind_any_section x) (laws.among_apart number_of terminal_of dc behind_any_section refl x h))
      where
        closed : (b : Bool) → b ≡ false → (b || false) ≡ false
        closed true e = absurd cc
        closed false e = refl

    first_only : (a b : Bool) → (a || (false && b)) ≡ true → a ≡ true
    first_only true b e = refl
    first_only false b e = absurd cc

    both : (o g k d : Bool) → g ≡ false → k ≡ false → d ≡ false → ((not o && g) || (true && (k || (o && d)))) ≡ false
    both o true k d e h f = absurd cc
    both o false true d e h f = absurd cc
    both o false false true e h f = absurd cc
    both true false false false e h f = refl
    both false false false false e h f = refl

sections_laws : (n : ℕ) → Obeys (sections n) (sections (suc n)) (read_sections n) (read_sections (suc n)) proper_starts (proper_starts ++ behind_group) true
unfolding sections read_sections
sections_laws n = turned flatten proper_starts (proper_starts ++ behind_group) true (any_number proper_starts behind_group (turned section_group_of proper_starts behind_group false (groups_laws n)) refl)

-- ---- the module

abbrev behind_decls : List Terminal
behind_decls = Semicolon ∷ Comma ∷ decl_starts

first_decls_laws : (n : ℕ) → Obeys (first_decls n) (first_decls (suc n)) (read_first_decls n) (read_first_decls (suc n)) other_starts (other_starts ++ ((decl_starts ++ Semicolon ∷ Comma ∷ []) ++ Semicolon ∷ [])) true
unfolding first_decls read_first_decls
first_decls_laws n =
    turned decls_of other_starts (other_starts ++ ((decl_starts ++ Semicolon ∷ Comma ∷ []) ++ Semicolon ∷ [])) true
    (perhaps other_starts ((decl_starts ++ Semicolon ∷ Comma ∷ []) ++ Semicolon ∷ [])
    (then_laws other_starts (Semicolon ∷ []) decl_starts (decl_starts ++ Semicolon ∷ Comma ∷ []) false true (other_decl_laws n) (decls_laws n) refl))

title_laws : Keeps title read_title (Title ∷ []) (Semicolon ∷ []) false
unfolding title read_title
title_laws =
    turned title_of (Title ∷ []) (Semicolon ∷ []) false
    (then_laws (Title ∷ []) [] (Text ∷ []) (Semicolon ∷ []) false false (one_laws Title)
    (then_laws (Text ∷ []) [] (Semicolon ∷ []) (Semicolon ∷ []) false true text_laws end_laws refl) refl)

abbrev pub behind_end : List Terminal
behind_end = Semicolon ∷ Identifier ∷ []

abbrev ends : List Terminal
ends = proper_starts ++ End ∷ []

abbrev decls_on : List Terminal
decls_on = other_starts ++ ends

abbrev options_on : List Terminal
options_on = option_words ++ decls_on

abbrev titles_on : List Terminal
titles_on = Title ∷ options_on

options_laws : Keeps options read_options option_words (option_words ++ Semicolon ∷ Comma ∷ []) true
unfolding options read_options
options_laws = turned flatten option_words (option_words ++ Semicolon ∷ Comma ∷ []) true (any_number option_words (Semicolon ∷ Comma ∷ []) option_laws refl)

pub source_laws : (n : ℕ) → Obeys (source n) (source (suc n)) (read_source n) (read_source (suc n)) (Module ∷ []) behind_end false
unfolding source read_source
source_laws n =
    turned module_of (Module ∷ []) behind_end false
    (then_laws (Module ∷ []) [] (Identifier ∷ []) behind_end false false (one_laws Module)
    (then_laws (Identifier ∷ []) [] (Semicolon ∷ titles_on) behind_end false false name_laws
    (then_laws (Semicolon ∷ []) (Semicolon ∷ []) titles_on behind_end true false end_laws
    (then_laws (Title ∷ []) (Title ∷ Semicolon ∷ []) options_on behind_end true false (perhaps (Title ∷ []) (Semicolon ∷ []) title_laws)
    (then_laws option_words (option_words ++ Semicolon ∷ Comma ∷ []) decls_on behind_end true false options_laws
    (then_laws other_starts (other_starts ++ ((decl_starts ++ Semicolon ∷ Comma ∷ []) ++ Semicolon ∷ [])) ends behind_end true false (first_decls_laws n)
    (then_laws proper_starts (proper_starts ++ behind_group) (End ∷ []) behind_end true false (sections_laws n)
    (then_laws (End ∷ []) [] (Identifier ∷ Semicolon ∷ []) behind_end false true (one_laws End)
    (then_laws (Identifier ∷ []) (Identifier ∷ []) (Semicolon ∷ []) (Semicolon ∷ []) true true (perhaps (Identifier ∷ []) [] (one_laws Identifier)) end_laws refl) refl) refl) refl) refl) refl) refl) refl) refl)
