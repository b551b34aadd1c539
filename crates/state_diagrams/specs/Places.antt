-- Where what transitions give is: at the registers of the diagram, and at the targets of statements (this project's
-- rule).
use Rattle.std.specs.Prelude.{List, [], ◌∷◌, ◌++◌}
use Rattle.state_diagrams.specs.Prelude.{Place, Branch, AGoal, AnIf, ACase, OtherBranch, NoBranch, ABranch, Choices, NoChoice, MoreChoices, Context, with_statements, Aim, statements_places}

-- one, and the match, of each register
abbrev pub goal_places : List Aim → List Place
goal_places [] = []
goal_places (a ∷ aims) = a.place ∷ a.place ∷ goal_places aims

abbrev mutual
  pub branch_places : Context → List Aim → Branch → List Place
  branch_places d xs (AGoal p value ss) = goal_places xs ++ statements_places d (with_statements ss)
  branch_places d xs (AnIf p c b other) = branch_places d xs b ++ other_branch_places d xs other
  branch_places d xs (ACase p cs) = choices_places d xs cs

  pub other_branch_places : Context → List Aim → OtherBranch → List Place
  other_branch_places d xs NoBranch = []
  other_branch_places d xs (ABranch b) = branch_places d xs b

  pub choices_places : Context → List Aim → Choices → List Place
  choices_places d xs NoChoice = []
  choices_places d xs (MoreChoices c colon b cs) = branch_places d xs b ++ choices_places d xs cs

abbrev pub branches_places : Context → List Aim → List Branch → List Place
branches_places d xs [] = []
branches_places d xs (b ∷ bs) = branch_places d xs b ++ branches_places d xs bs
