-- What statements contribute (ABEL-HDL Reference Manual, equations and WHEN-THEN-ELSE).
use Rattle.std.specs.Prelude.{ℕ, Bool, Option, None, Some, List, [], ◌∷◌, ◌++◌, length}
use Rattle.abel_meaning.specs.Prelude.{Extension, target_extension, is_clocked, Statement, AnAssign, AWhen, AGroup, ADontCare, Otherwise, NoElse, AnElse, Statements, NoStatement, MoreStatements}
use Rattle.abel_tree.specs.declared.words.Sign.{Sign}
use Rattle.abel_tree.specs.declared.words.Sign.TheVariants as sign
use Rattle.abel_meaning.specs.Terms.{term_of}
use Rattle.abel_meaning.specs.Targets.{targets_of}
use Rattle.abel_meaning.specs.Designs.{Context}
use Rattle.abel_meaning.specs.Contributions.{Evaluator, condition, Gives, Contribution, Guard, guarded, contribution}
use Rattle.abel_meaning.specs.Contributions as give

-- what the sign gives if the value is 1
abbrev pub sign_gives : Sign → Gives
sign_gives sign.Equal = give.One
sign_gives sign.Clocked = give.One
sign_gives sign.Any = give.Any
sign_gives sign.ClockedAny = give.Any

-- each signal of a target with its bit of the value
abbrev pub given_each : {W : Type 0} → Evaluator W → Context → Guard W → Option Extension
    → (complement clocked : Bool) → Gives → List (Option ℕ) → List W → List (Contribution W)
given_each ev d g extension complement clocked gives [] ws = []
given_each ev d g extension complement clocked gives (s ∷ ss) [] = []
given_each ev d g extension complement clocked gives (None ∷ ss) (w ∷ ws) =
    given_each ev d g extension complement clocked gives ss ws
given_each ev d g extension complement clocked gives (Some s ∷ ss) (w ∷ ws) =
    contribution d g extension complement clocked gives s (ev.both g.holds w)
    ∷ given_each ev d g extension complement clocked gives ss ws

-- those of `s` count if the condition holds, those of `t` if it doesn't
abbrev mutual
  pub statement_gives : {W : Type 0} → Evaluator W → Context → Guard W → Statement → List (Contribution W)
  statement_gives ev d g (AnAssign place complement target sign sign_place value) =
      given_each ev d g (target_extension target) complement (is_clocked sign) (sign_gives sign)
      (targets_of (term_of d.known target))
      (ev.word (length (targets_of (term_of d.known target))) (term_of d.known value))
  statement_gives ev d g (AWhen place c s other) =
      statement_gives ev d (guarded ev g (condition ev (term_of d.known c))) s
      ++ else_gives ev d (guarded ev g (ev.not (condition ev (term_of d.known c)))) other
  statement_gives ev d g (AGroup ss) = statements_give ev d g ss
  statement_gives ev d g (ADontCare directive) = []

  pub else_gives : {W : Type 0} → Evaluator W → Context → Guard W → Otherwise → List (Contribution W)
  else_gives ev d g NoElse = []
  else_gives ev d g (AnElse s) = statement_gives ev d g s

  pub statements_give : {W : Type 0} → Evaluator W → Context → Guard W → Statements → List (Contribution W)
  statements_give ev d g NoStatement = []
  statements_give ev d g (MoreStatements s ss) = statement_gives ev d g s ++ statements_give ev d g ss
