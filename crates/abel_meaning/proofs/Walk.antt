-- If one way to read terms follows another, all contributions do.
use Rattle.std.proofs.Common.{◌≡◌, ℕ, Bool, true, false, cond, List, [], ◌∷◌, ◌++◌, map, reverse, get_or, Option, None, Some, length, refl, sym, ap, ap₂, ◌∙◌, filter, ◌==◌, if◌then◌else◌}
use Rattle.abel_meaning.proofs.Common.{list_any, map-append, Extension, Term, term_of, Context, Design, width_of, digits, constant_of, Evaluator, condition, Gives, One, Contribution, Guard, guarded, contribution, Follows, seen, seen_guard}
use Rattle.std.proofs.Math.ListN.{get_or-map}
use Rattle.abel_meaning.specs.Terms as term
use Rattle.abel_tree.specs.Tree.{AnAssign, AWhen, AGroup, ADontCare, NoElse, AnElse, NoStatement, MoreStatements, statements_of, AGoal, AnIf, ACase, NoBranch, ABranch, NoChoice, MoreChoices, Declarations, Equations, ATable, ADiagram, SomeVectors, DontCareSection, Statement, Statements, Branch, OtherBranch, Choices, StateTree, RowTree, SectionTree, Otherwise}
use Rattle.abel_meaning.specs.Targets.{targets_of, some_signals}
use Rattle.abel_tree.specs.Assigned.{target_extension, is_clocked}
use Rattle.abel_meaning.specs.Statements.{sign_gives, given_each, statement_gives, else_gives, statements_give}
use Rattle.abel_meaning.specs.Rows.{entry_levels}
use Rattle.abel_meaning.specs.Tables.{literal, agrees, row_matches, level_gives, match_of, outputs_given, rows_give, no_matches, table_gives}
use Rattle.abel_meaning.specs.Diagrams.{registers_equal, is_state, goal_gives, branch_gives, other_gives, choices_give, branches_give, in_state, state_gives, states_give, is_other, once, first_of_each, state_matches, other_matches, with_others, registers_given, diagram_gives, with_statements}
use Rattle.abel_meaning.specs.Directives.{after_section}
use Rattle.abel_meaning.specs.Sections.{next_block, unguarded, section_gives, sections_give, contributions}

module _ {V W : Type 0} (h : V → W) (ev : Evaluator V) (fv : Evaluator W) (l : Follows h ev fv) (d : Context) where
  -- two parts that are seen alike
  parts : (xs ys : List (Contribution V)) (us vs : List (Contribution W)) → map (seen h) xs ≡ us → map (seen h) ys ≡ vs → map (seen h) (xs ++ ys) ≡ us ++ vs
  parts xs ys us vs p q = map-append (seen h) xs ys ∙ ap₂ (λ a b. a ++ b) p q

  condition_seen : (t : Term) → h (condition ev t) ≡ condition fv t
  condition_seen t =
      sym (get_or-map h (ev.word 1 t) 0 (ev.constant false)) ∙ ap₂ (λ ws b. get_or ws 0 b) (l.word 1 t) (l.constant false)

  guarded_seen : (g : Guard V) (v : V) (w : W) → h v ≡ w → seen_guard h (guarded ev g v) ≡ guarded fv (seen_guard h g) w
  guarded_seen g v w p =
      ap (λ (x : W). let y : Guard W = record { holds = x; dontcare = g.dontcare; block = g.block } in y) (l.both g.holds v ∙ ap (λ x. fv.both (h g.holds) x) p)

  then_seen : (g : Guard V) (t : Term) → seen_guard h (guarded ev g (condition ev t)) ≡ guarded fv (seen_guard h g) (condition fv t)
  then_seen g t = guarded_seen g (condition ev t) (condition fv t) (condition_seen t)

  else_seen : (g : Guard V) (t : Term) → seen_guard h (guarded ev g (ev.not (condition ev t))) ≡ guarded fv (seen_guard h g) (fv.not (condition fv t))
  else_seen g t =
      guarded_seen g (ev.not (condition ev t)) (fv.not (condition fv t)) (l.negates (condition ev t) ∙ ap (λ x. fv.not x) (condition_seen t))

  given_seen : (g : Guard V) (e : Option Extension) (c k : Bool) (what : Gives) (ss : List (Option ℕ)) (vs : List V) → map (seen h) (given_each ev d g e c k what ss vs) ≡ given_each fv d (seen_guard h g) e c k what ss (map h vs)
  given_seen g e c k what [] vs = refl
  given_seen g e c k what (None ∷ ss) [] = refl
  given_seen g e c k what (Some s ∷ ss) [] = refl
  given_seen g e c k what (None ∷ ss) (v ∷ vs) = given_seen g e c k what ss vs
  given_seen g e c k what (Some s ∷ ss) (v ∷ vs) =
      ap₂ (λ (x : W) (xs : List (Contribution W)). contribution d (seen_guard h g) e c k what s x ∷ xs) (l.both g.holds v) (given_seen g e c k what ss vs)

  mutual
    statement_seen : (g : Guard V) (s : Statement) → map (seen h) (statement_gives ev d g s) ≡ statement_gives fv d (seen_guard h g) s
    statement_seen g (AnAssign place c target sign sign_place value) =
        given_seen g (target_extension target) c (is_clocked sign) (sign_gives sign) (targets_of (term_of d.known target)) (ev.word (length (targets_of (term_of d.known target))) (term_of d.known value))
        ∙ ap (λ ws. given_each fv d (seen_guard h g) (target_extension target) c (is_clocked sign) (sign_gives sign) (targets_of (term_of d.known target)) ws) (l.word (length (targets_of (term_of d.known target))) (term_of d.known value))
    statement_seen g (AWhen place c s other) =
        parts _ _ _ _
        (statement_seen (guarded ev g (condition ev (term_of d.known c))) s ∙ ap (λ x. statement_gives fv d x s) (then_seen g (term_of d.known c)))
        (other_seen (guarded ev g (ev.not (condition ev (term_of d.known c)))) other ∙ ap (λ x. else_gives fv d x other) (else_seen g (term_of d.known c)))
    statement_seen g (AGroup ss) = statements_seen g ss
    statement_seen g (ADontCare directive) = refl

    other_seen : (g : Guard V) (o : Otherwise) → map (seen h) (else_gives ev d g o) ≡ else_gives fv d (seen_guard h g) o
    other_seen g NoElse = refl
    other_seen g (AnElse s) = statement_seen g s

    statements_seen : (g : Guard V) (ss : Statements) → map (seen h) (statements_give ev d g ss) ≡ statements_give fv d (seen_guard h g) ss
    statements_seen g NoStatement = refl
    statements_seen g (MoreStatements s ss) = parts _ _ _ _ (statement_seen g s) (statements_seen g ss)

  literal_seen : (b : Bool) (v : V) (w : W) → h v ≡ w → h (literal ev b v) ≡ literal fv b w
  literal_seen true v w p = p
  literal_seen false v w p = l.negates v ∙ ap (λ x. fv.not x) p

  both_seen : (found v : V) (w : W) → h v ≡ w → h (ev.both found v) ≡ fv.both (h found) w
  both_seen found v w p = l.both found v ∙ ap (λ x. fv.both (h found) x) p

  agrees_seen : (found : V) (xs : List Bool) (vs : List V) (ls : List (Option Bool)) → h (agrees ev found xs vs ls) ≡ agrees fv (h found) xs (map h vs) ls
  agrees_seen found [] vs ls = refl
  agrees_seen found (x ∷ xs) [] ls = refl
  agrees_seen found (x ∷ xs) (v ∷ vs) [] = refl
  agrees_seen found (true ∷ xs) (v ∷ vs) (b ∷ ls) = agrees_seen found xs vs ls
  agrees_seen found (false ∷ xs) (v ∷ vs) (None ∷ ls) = agrees_seen found xs vs ls
  agrees_seen found (false ∷ xs) (v ∷ vs) (Some b ∷ ls) =
      agrees_seen (ev.both found (literal ev b v)) xs vs ls
      ∙ ap (λ f. agrees fv f xs (map h vs) ls) (both_seen found (literal ev b v) (literal fv b (h v)) (literal_seen b v (h v) refl))

  row_seen : (header entry : Term) → h (row_matches ev d header entry) ≡ row_matches fv d header entry
  row_seen header entry =
      agrees_seen (ev.constant true) (reverse (constant_of d header).unknown) (ev.word (width_of (constant_of d header).shape) header) (entry_levels d header entry)
      ∙ ap₂ (λ f ws. agrees fv f (reverse (constant_of d header).unknown) ws (entry_levels d header entry)) (l.constant true) (l.word (width_of (constant_of d header).shape) header)

  level_seen : (g : Guard V) (k : Bool) (s : ℕ) (b : Option Bool) → map (seen h) (level_gives d g k s b) ≡ level_gives d (seen_guard h g) k s b
  level_seen g k s (Some true) = refl
  level_seen g k s (Some false) = refl
  level_seen g k s None = refl

  outputs_seen : (g : Guard V) (k : Bool) (ss : List (Option ℕ)) (ls : List (Option Bool)) → map (seen h) (outputs_given d g k ss ls) ≡ outputs_given d (seen_guard h g) k ss ls
  outputs_seen g k [] ls = refl
  outputs_seen g k (None ∷ ss) [] = refl
  outputs_seen g k (Some s ∷ ss) [] = refl
  outputs_seen g k (None ∷ ss) (b ∷ ls) = outputs_seen g k ss ls
  outputs_seen g k (Some s ∷ ss) (b ∷ ls) =
      parts (level_gives d g k s b) (match_of d g false k s ∷ outputs_given d g k ss ls) _ _
      (level_seen g k s b) (ap (λ xs. match_of d (seen_guard h g) false k s ∷ xs) (outputs_seen g k ss ls))

  -- a guard whose condition is another one
  abbrev with_condition : {X : Type 0} → Guard X → X → Guard X
  with_condition g x = record g { holds = x }

  rows_seen : (g : Guard V) (k : Bool) (inputs outputs : Term) (rows : List RowTree) → map (seen h) (rows_give ev d g k inputs outputs rows) ≡ rows_give fv d (seen_guard h g) k inputs outputs rows
  rows_seen g k inputs outputs [] = refl
  rows_seen g k inputs outputs (row ∷ rows) =
      parts _ _ _ _
      (outputs_seen (with_condition g (row_matches ev d inputs (term_of d.known row.inputs))) k (targets_of outputs) (entry_levels d outputs (term_of d.known row.outputs))
      ∙ ap (λ x. outputs_given d (with_condition (seen_guard h g) x) k (targets_of outputs) (entry_levels d outputs (term_of d.known row.outputs))) (row_seen inputs (term_of d.known row.inputs)))
      (rows_seen g k inputs outputs rows)

  none_seen : (g : Guard V) (c k : Bool) (ss : List (Option ℕ)) → map (seen h) (no_matches ev d g c k ss) ≡ no_matches fv d (seen_guard h g) c k ss
  none_seen g c k [] = refl
  none_seen g c k (None ∷ ss) = none_seen g c k ss
  none_seen g c k (Some s ∷ ss) =
      ap₂ (λ x (xs : List (Contribution W)). match_of d (with_condition (seen_guard h g) x) c k s ∷ xs) (l.constant false) (none_seen g c k ss)

  table_seen : (g : Guard V) (k : Bool) (inputs outputs : Term) (rows : List RowTree) → map (seen h) (table_gives ev d g k inputs outputs rows) ≡ table_gives fv d (seen_guard h g) k inputs outputs rows
  table_seen g k inputs outputs rows =
      parts _ _ _ _ (none_seen g false k (targets_of outputs)) (rows_seen g k inputs outputs rows)

  registers_seen : (found : V) (ss : List ℕ) (bs : List Bool) → h (registers_equal ev found ss bs) ≡ registers_equal fv (h found) ss bs
  registers_seen found [] bs = refl
  registers_seen found (s ∷ ss) [] = refl
  registers_seen found (s ∷ ss) (b ∷ bs) =
      registers_seen (ev.both found (literal ev b (condition ev (term.Read s None)))) ss bs
      ∙ ap (λ f. registers_equal fv f ss bs)
      (both_seen found (literal ev b (condition ev (term.Read s None))) (literal fv b (condition fv (term.Read s None)))
      (literal_seen b (condition ev (term.Read s None)) (condition fv (term.Read s None)) (condition_seen (term.Read s None))))

  state_seen : (ss : List ℕ) (v : Term) → h (is_state ev d ss v) ≡ is_state fv d ss v
  state_seen ss v =
      registers_seen (ev.constant true) ss (digits (length ss) (constant_of d v).number)
      ∙ ap (λ f. registers_equal fv f ss (digits (length ss) (constant_of d v).number)) (l.constant true)

  goal_seen : (g : Guard V) (ss : List ℕ) (vs : List V) → map (seen h) (goal_gives ev d g ss vs) ≡ goal_gives fv d (seen_guard h g) ss (map h vs)
  goal_seen g [] vs = refl
  goal_seen g (s ∷ ss) [] = refl
  goal_seen g (s ∷ ss) (v ∷ vs) =
      ap₂ (λ x (xs : List (Contribution W)). contribution d (seen_guard h g) None false true One s x ∷ match_of d (seen_guard h g) false true s ∷ xs) (l.both g.holds v) (goal_seen g ss vs)

  mutual
    branch_seen : (g : Guard V) (ss : List ℕ) (a : Branch) → map (seen h) (branch_gives ev d g ss a) ≡ branch_gives fv d (seen_guard h g) ss a
    branch_seen g ss (AGoal place value statements) =
        parts _ _ _ _
        (goal_seen g ss (ev.word (length ss) (term_of d.known value)) ∙ ap (λ ws. goal_gives fv d (seen_guard h g) ss ws) (l.word (length ss) (term_of d.known value)))
        (statements_seen g (with_statements statements))
    branch_seen g ss (AnIf place c a other) =
        parts _ _ _ _
        (branch_seen (guarded ev g (condition ev (term_of d.known c))) ss a ∙ ap (λ x. branch_gives fv d x ss a) (then_seen g (term_of d.known c)))
        (other_branch_seen (guarded ev g (ev.not (condition ev (term_of d.known c)))) ss other ∙ ap (λ x. other_gives fv d x ss other) (else_seen g (term_of d.known c)))
    branch_seen g ss (ACase place cs) = choices_seen g ss cs

    other_branch_seen : (g : Guard V) (ss : List ℕ) (o : OtherBranch) → map (seen h) (other_gives ev d g ss o) ≡ other_gives fv d (seen_guard h g) ss o
    other_branch_seen g ss NoBranch = refl
    other_branch_seen g ss (ABranch a) = branch_seen g ss a

    choices_seen : (g : Guard V) (ss : List ℕ) (cs : Choices) → map (seen h) (choices_give ev d g ss cs) ≡ choices_give fv d (seen_guard h g) ss cs
    choices_seen g ss NoChoice = refl
    choices_seen g ss (MoreChoices c colon a cs) =
        parts _ _ _ _
        (branch_seen (guarded ev g (condition ev (term_of d.known c))) ss a ∙ ap (λ x. branch_gives fv d x ss a) (then_seen g (term_of d.known c)))
        (choices_seen g ss cs)

  branches_seen : (g : Guard V) (ss : List ℕ) (arms : List Branch) → map (seen h) (branches_give ev d g ss arms) ≡ branches_give fv d (seen_guard h g) ss arms
  branches_seen g ss [] = refl
  branches_seen g ss (a ∷ arms) = parts _ _ _ _ (branch_seen g ss a) (branches_seen g ss arms)

  in_state_seen : (g : Guard V) (ss : List ℕ) (s : StateTree) → seen_guard h (in_state ev d g ss s) ≡ in_state fv d (seen_guard h g) ss s
  in_state_seen g ss s = ap (λ (x : W). with_condition (seen_guard h g) x) (state_seen ss (term_of d.known s.value))

  one_state_seen : (g : Guard V) (ss : List ℕ) (s : StateTree) → map (seen h) (state_gives ev d ss s g) ≡ state_gives fv d ss s (seen_guard h g)
  one_state_seen g ss s = parts _ _ _ _ (statements_seen g (statements_of s.statements)) (branches_seen g ss s.transitions)

  states_seen : (g : Guard V) (ss : List ℕ) (states : List StateTree) → map (seen h) (states_give ev d g ss states) ≡ states_give fv d (seen_guard h g) ss states
  states_seen g ss [] = refl
  states_seen g ss (s ∷ states) =
      parts _ _ _ _
      (one_state_seen (in_state ev d g ss s) ss s ∙ ap (λ x. state_gives fv d ss s x) (in_state_seen g ss s))
      (states_seen g ss states)

  others_seen : (ss : List ℕ) (cs : List (Contribution V)) → filter (is_other ss) (map (seen h) cs) ≡ map (seen h) (filter (is_other ss) cs)
  others_seen ss [] = refl
  others_seen ss (c ∷ cs) = kept_or_not (is_other ss c) _ _ (others_seen ss cs)
    where
      kept_or_not : (b : Bool) (xs : List (Contribution W)) (ys : List (Contribution V)) → xs ≡ map (seen h) ys → cond b (seen h c ∷ xs) xs ≡ map (seen h) (cond b (c ∷ ys) ys)
      kept_or_not true xs ys p = ap (λ zs. seen h c ∷ zs) p
      kept_or_not false xs ys p = p

  first_seen : (before : List ℕ) (cs : List (Contribution V)) → first_of_each before (map (seen h) cs) ≡ map (seen h) (first_of_each before cs)
  first_seen before [] = refl
  first_seen before (c ∷ cs) =
      sym (parts (once before c) (first_of_each (c.signal ∷ before) cs) _ _ (once_seen (list_any (λ s. c.signal == s) before)) (sym (first_seen (c.signal ∷ before) cs)))
    where
      once_seen : (b : Bool) → map (seen h) (if b then [] else c ∷ []) ≡ if b then [] else seen h c ∷ []
      once_seen true = refl
      once_seen false = refl

  matches_seen : (g : Guard V) (ss : List ℕ) (states : List StateTree) (c : Contribution V) → map (seen h) (state_matches ev d g ss states c) ≡ state_matches fv d (seen_guard h g) ss states (seen h c)
  matches_seen g ss [] c = refl
  matches_seen g ss (s ∷ states) c =
      ap₂ (λ (x : Guard W) (xs : List (Contribution W)). match_of d x c.complement c.clocked c.signal ∷ xs) (in_state_seen g ss s) (matches_seen g ss states c)

  other_matches_seen : (g : Guard V) (ss : List ℕ) (states : List StateTree) (cs : List (Contribution V)) → map (seen h) (other_matches ev d g ss states cs) ≡ other_matches fv d (seen_guard h g) ss states (map (seen h) cs)
  other_matches_seen g ss states [] = refl
  other_matches_seen g ss states (c ∷ cs) = parts _ _ _ _ (matches_seen g ss states c) (other_matches_seen g ss states cs)

  with_others_seen : (g : Guard V) (ss : List ℕ) (states : List StateTree) (cs : List (Contribution V)) → map (seen h) (with_others ev d g ss states cs) ≡ with_others fv d (seen_guard h g) ss states (map (seen h) cs)
  with_others_seen g ss states cs =
      parts _ _ _ _ refl
      (other_matches_seen g ss states (first_of_each [] (filter (is_other ss) cs))
      ∙ ap (λ xs. other_matches fv d (seen_guard h g) ss states xs) (sym (first_seen [] (filter (is_other ss) cs)) ∙ ap (λ xs. first_of_each [] xs) (sym (others_seen ss cs))))

  given_registers_seen : (g : Guard V) (ss : List ℕ) (states : List StateTree) → map (seen h) (registers_given ev d g ss states) ≡ registers_given fv d (seen_guard h g) ss states
  given_registers_seen g ss states =
      parts _ _ _ _ (none_seen g false true (map Some ss))
      (with_others_seen g ss states (states_give ev d g ss states) ∙ ap (λ xs. with_others fv d (seen_guard h g) ss states xs) (states_seen g ss states))

  unguarded_seen : (on : Bool) (block : Option ℕ) → seen_guard h (unguarded ev on block) ≡ unguarded fv on block
  unguarded_seen on block = ap (λ (x : W). with_condition (unguarded fv on block) x) (l.constant true)

  section_seen : (on : Bool) (block : ℕ) (s : SectionTree) → map (seen h) (section_gives ev d on block s) ≡ section_gives fv d on block s
  section_seen on block (Declarations ds) = refl
  section_seen on block (Equations ss) =
      statements_seen (unguarded ev on None) (statements_of ss) ∙ ap (λ x. statements_give fv d x (statements_of ss)) (unguarded_seen on None)
  section_seen on block (ATable place inputs k outputs rows) =
      table_seen (unguarded ev on (Some block)) k (term_of d.known inputs) (term_of d.known outputs) rows
      ∙ ap (λ x. table_gives fv d x k (term_of d.known inputs) (term_of d.known outputs) rows) (unguarded_seen on (Some block))
  section_seen on block (ADiagram place registers states) =
      given_registers_seen (unguarded ev on (Some block)) (some_signals (targets_of (term_of d.known registers))) states
      ∙ ap (λ x. diagram_gives fv d x (term_of d.known registers) states) (unguarded_seen on (Some block))
  section_seen on block (SomeVectors _ place inputs outputs rows) = refl
  section_seen on block (DontCareSection directive) = refl

  sections_seen : (on : Bool) (block : ℕ) (ss : List SectionTree) → map (seen h) (sections_give ev d on block ss) ≡ sections_give fv d on block ss
  sections_seen on block [] = refl
  sections_seen on block (s ∷ ss) =
      parts _ _ _ _ (section_seen on block s) (sections_seen (after_section on s) (next_block block s) ss)

module _ {V W : Type 0} (h : V → W) (ev : Evaluator V) (fv : Evaluator W) (l : Follows h ev fv) (d : Design) where
  pub contributions_seen : map (seen h) (contributions ev d) ≡ contributions fv d
  contributions_seen = sections_seen h ev fv l d.context d.starts_dontcare 0 d.sections
