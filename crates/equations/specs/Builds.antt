-- Conditions and assignments as units of which nothing is refused (ABEL-HDL Reference Manual, equations).
use Rattle.std.specs.Prelude.{◌≡◌, ℕ, None, [], ◌∷◌, length, Result}
use Rattle.equations.specs.Prelude.{Place, Table, arena, formula_at, Names, Assign, entries_of, Tree, view, value_nodes, Context, formulas, statement_gives, targets_of, known_of, term_of, Guard, SectionFault, refusal_of, view_guard, Walked, Builds, context_for, left_side, CountedUnit, part, standing}
use Rattle.equations.specs.Checks.{view_assign}
use Rattle.equations.specs.StatementUnits.{condition_refused, statement_places}

-- the unit of a condition at its place, with so many nodes
abbrev pub condition_unit : Context → Place → Tree → (nodes : ℕ) → CountedUnit
condition_unit d p c nodes = record { place = p; refusals = condition_refused d p c; nodes = nodes }

-- neither the value nor the target of an assignment is refused
pub record IsAcceptedAssign (t : Table) (n : Names) (a : Assign) : Type 0 where
  pub value : refusal_of n (view a.value) ≡ None
  pub target : (left_side (context_for t n) a.place (view a.target)).refusals ≡ []

-- the signals of an assignment of which nothing is refused are given its value, as one unit
abbrev pub GivesAssign : Table → Names → Guard → Assign → (old new : Walked) → Result Unit SectionFault → Type 0
GivesAssign t n g a old new r =
    Builds
    (part a.place (value_nodes (context_for t n) (formula_at (arena old.exprs) g.when) (length (targets_of (term_of (known_of (entries_of n)) (view a.target)))) (view a.value)) ∷ [])
    (statement_gives (formulas (context_for t n)) (context_for t n) (view_guard (arena old.exprs) g) (view_assign a))
    (statement_places (context_for t n) (view_assign a)) (standing old) (standing new) r
