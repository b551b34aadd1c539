-- What states give depends on the guard of their diagram only by its block and by whether that is don't-care.
use Rattle.std.proofs.Common.{◌≡◌, ℕ, Bool, true, false, List, [], ◌∷◌, ◌++◌, map, Option, None, Some, length, refl, sym, ap, ap₂, ◌∙◌}
use Rattle.state_diagrams.proofs.Common.{map-append, Statement, AnAssign, AWhen, AGroup, ADontCare, Otherwise, NoElse, AnElse, Statements, NoStatement, MoreStatements, statements_of, Branch, AGoal, AnIf, ACase, OtherBranch, NoBranch, ABranch, Choices, NoChoice, MoreChoices, StateTree, Evaluator, condition, Gives, One, contribution, Context, goal_gives, with_statements, branch_gives, other_gives, choices_give, branches_give, is_state, state_gives, states_give, sign_gives, given_each, statement_gives, else_gives, statements_give, match_of, targets_of, term_of, regarded}
use Rattle.abel_tree.specs.declared.words.Extension.{Extension}
use Rattle.abel_tree.specs.Assigned.{target_extension, is_clocked}
use Rattle.abel_meaning.specs.Contributions.{Contribution, Guard}

-- all as the block under the one guard gives them; under the other they differ by block and don't-care alone
module _ {W : Type 0} (ev : Evaluator W) (d : Context) (g h : Guard W) where
  abbrev regarded_all : List (Contribution W) → List (Contribution W)
  regarded_all cs = map (regarded d g) cs

  -- two parts
  parts : (xs ys : List (Contribution W)) {us vs : List (Contribution W)} → us ≡ regarded_all xs → vs ≡ regarded_all ys → us ++ vs ≡ regarded_all (xs ++ ys)
  parts xs ys p q = ap₂ (λ a b. a ++ b) p q ∙ sym (map-append (regarded d g) xs ys)

  -- a guard whose condition is this one
  abbrev under : Guard W → W → Guard W
  under x w = record x { holds = w }

  given_by_any : (w : W) (e : Option Extension) (c k : Bool) (what : Gives) (ss : List (Option ℕ)) (vs : List W) → given_each ev d (under g w) e c k what ss vs ≡ regarded_all (given_each ev d (under h w) e c k what ss vs)
  given_by_any w e c k what (None ∷ ss) (v ∷ vs) = given_by_any w e c k what ss vs
  given_by_any w e c k what (Some s ∷ ss) (v ∷ vs) =
      ap (λ xs. contribution d (under g w) e c k what s (ev.both w v) ∷ xs) (given_by_any w e c k what ss vs)
  given_by_any w e c k what _ _ = refl

  mutual
    statement_by_any : (w : W) (s : Statement) → statement_gives ev d (under g w) s ≡ regarded_all (statement_gives ev d (under h w) s)
    statement_by_any w (AnAssign place c target sign sign_place value) =
        given_by_any w (target_extension target) c (is_clocked sign) (sign_gives sign) (targets_of (term_of d.known target)) (ev.word (length (targets_of (term_of d.known target))) (term_of d.known value))
    statement_by_any w (AWhen place c s other) =
        parts _ _ (statement_by_any (ev.both w (condition ev (term_of d.known c))) s) (else_by_any (ev.both w (ev.not (condition ev (term_of d.known c)))) other)
    statement_by_any w (AGroup ss) = statements_by_any w ss
    statement_by_any w (ADontCare directive) = refl

    else_by_any : (w : W) (o : Otherwise) → else_gives ev d (under g w) o ≡ regarded_all (else_gives ev d (under h w) o)
    else_by_any w NoElse = refl
    else_by_any w (AnElse s) = statement_by_any w s

    statements_by_any : (w : W) (ss : Statements) → statements_give ev d (under g w) ss ≡ regarded_all (statements_give ev d (under h w) ss)
    statements_by_any w NoStatement = refl
    statements_by_any w (MoreStatements s ss) = parts _ _ (statement_by_any w s) (statements_by_any w ss)

  goal_by_any : (w : W) (ss : List ℕ) (vs : List W) → goal_gives ev d (under g w) ss vs ≡ regarded_all (goal_gives ev d (under h w) ss vs)
  goal_by_any w (s ∷ ss) (v ∷ vs) =
      ap (λ xs. contribution d (under g w) None false true One s (ev.both w v) ∷ match_of d (under g w) false true s ∷ xs) (goal_by_any w ss vs)
  goal_by_any w _ _ = refl

  mutual
    branch_by_any : (w : W) (ss : List ℕ) (b : Branch) → branch_gives ev d (under g w) ss b ≡ regarded_all (branch_gives ev d (under h w) ss b)
    branch_by_any w ss (AGoal place value statements) =
        parts _ _ (goal_by_any w ss (ev.word (length ss) (term_of d.known value))) (statements_by_any w (with_statements statements))
    branch_by_any w ss (AnIf place c b other) =
        parts _ _ (branch_by_any (ev.both w (condition ev (term_of d.known c))) ss b) (other_by_any (ev.both w (ev.not (condition ev (term_of d.known c)))) ss other)
    branch_by_any w ss (ACase place cs) = choices_by_any w ss cs

    other_by_any : (w : W) (ss : List ℕ) (o : OtherBranch) → other_gives ev d (under g w) ss o ≡ regarded_all (other_gives ev d (under h w) ss o)
    other_by_any w ss NoBranch = refl
    other_by_any w ss (ABranch b) = branch_by_any w ss b

    choices_by_any : (w : W) (ss : List ℕ) (cs : Choices) → choices_give ev d (under g w) ss cs ≡ regarded_all (choices_give ev d (under h w) ss cs)
    choices_by_any w ss NoChoice = refl
    choices_by_any w ss (MoreChoices c colon b cs) =
        parts _ _ (branch_by_any (ev.both w (condition ev (term_of d.known c))) ss b) (choices_by_any w ss cs)

  branches_by_any : (w : W) (ss : List ℕ) (bs : List Branch) → branches_give ev d (under g w) ss bs ≡ regarded_all (branches_give ev d (under h w) ss bs)
  branches_by_any w ss [] = refl
  branches_by_any w ss (b ∷ bs) = parts _ _ (branch_by_any w ss b) (branches_by_any w ss bs)

  state_by_any : (w : W) (ss : List ℕ) (s : StateTree) → state_gives ev d ss s (under g w) ≡ regarded_all (state_gives ev d ss s (under h w))
  state_by_any w ss s = parts _ _ (statements_by_any w (statements_of s.statements)) (branches_by_any w ss s.transitions)

  -- under any other guard states give the same, except for block and don't-care
  pub states_by_any : (ss : List ℕ) (states : List StateTree) → states_give ev d g ss states ≡ regarded_all (states_give ev d h ss states)
  states_by_any ss [] = refl
  states_by_any ss (s ∷ states) = parts _ _ (state_by_any (is_state ev d ss (term_of d.known s.value)) ss s) (states_by_any ss states)
