-- The nodes that the units of statements make, units in order of their first tokens (this project's rule).
use Rattle.std.specs.Prelude.{ℕ, ◌+◌, Bool, true, false, List, [], ◌∷◌, ◌++◌, length}
use Rattle.abel_meaning.specs.Prelude.{Made, ◌>>=◌, make_not, make_and, Formula, Tree, Statement, AnAssign, AWhen, AGroup, ADontCare, Otherwise, NoElse, AnElse, Statements, NoStatement, MoreStatements}
use Rattle.abel_meaning.specs.Terms.{term_of}
use Rattle.abel_meaning.specs.Targets.{targets_of}
use Rattle.abel_meaning.specs.Designs.{Context}
use Rattle.abel_meaning.specs.Contributions.{condition}
use Rattle.abel_meaning.specs.FormulaBits.{bits_of, formulas}

-- the nodes of an expression
abbrev pub term_nodes : Context → Tree → ℕ
term_nodes d e = (bits_of d (term_of d.known e)).nodes

-- an And of the guard with each bit
abbrev pub guard_nodes : (guard : Formula) → List Formula → ℕ
guard_nodes g [] = 0
guard_nodes g (f ∷ fs) = (make_and g f).nodes + guard_nodes g fs

-- an assigned value or a goal, for this many signals
abbrev pub value_nodes : Context → (guard : Formula) → ℕ → Tree → ℕ
value_nodes d g n e = term_nodes d e + guard_nodes g ((formulas d).word n (term_of d.known e))

-- the condition's formula
abbrev pub condition_of : Context → Tree → Formula
condition_of d c = condition (formulas d) (term_of d.known c)

-- the guard of what counts if the condition holds
abbrev pub guard_then : (guard condition : Formula) → Made Formula
guard_then g c = make_and g c

-- the guard of what counts if it doesn't
abbrev pub guard_else : (guard condition : Formula) → Made Formula
guard_else g c = make_not c >>= λ f. make_and g f

-- a condition with its And, and with ELSE the Not and its And
abbrev pub choice_nodes : Context → (guard : Formula) → Tree → (other : Bool) → ℕ
choice_nodes d g c false = term_nodes d c + (guard_then g (condition_of d c)).nodes
choice_nodes d g c true =
    term_nodes d c + (guard_then g (condition_of d c)).nodes + (guard_else g (condition_of d c)).nodes

-- an ELSE is there
abbrev pub has_else : Otherwise → Bool
has_else NoElse = false
has_else (AnElse s) = true

-- the units of statements
abbrev mutual
  pub statement_units : Context → (guard : Formula) → Statement → List ℕ
  statement_units d g (AnAssign place complement target sign sign_place value) =
      value_nodes d g (length (targets_of (term_of d.known target))) value ∷ []
  statement_units d g (AWhen place c s other) =
      choice_nodes d g c (has_else other)
      ∷ statement_units d (guard_then g (condition_of d c)).what s
      ++ else_units d (guard_else g (condition_of d c)).what other
  statement_units d g (AGroup ss) = statements_units d g ss
  statement_units d g (ADontCare directive) = []

  pub else_units : Context → (guard : Formula) → Otherwise → List ℕ
  else_units d g NoElse = []
  else_units d g (AnElse s) = statement_units d g s

  pub statements_units : Context → (guard : Formula) → Statements → List ℕ
  statements_units d g NoStatement = []
  statements_units d g (MoreStatements s ss) = statement_units d g s ++ statements_units d g ss
