-- What a walk over statements under a guard leaves (ABEL-HDL Reference Manual, equations and WHEN-THEN-ELSE).
use Rattle.std.specs.Prelude.{◌≡◌, ◌<◌, Bool, true, None, List, [], ◌∷◌, length}
use Rattle.equations.specs.Prelude.{Place, Table, arena, formula_at, Names, Tree, Statement, Statements, condition_of, choice_nodes, guard_then, guard_else, formulas, statement_gives, statements_give, Guard, view_guard, Manner, Walked, context_for, AreFirsts, StillStands, Walks}
use Rattle.bit_expr.specs.declared.node.ExprId.{ExprId}
use Rattle.equations.specs.declared.choices.BothGuards.{BothGuards}
use Rattle.equations.specs.Builds.{condition_unit}
use Rattle.equations.specs.StatementUnits.{units_of_statement, units_of_statements, statement_manners, statements_manners, statement_places, statements_places}

-- a statement after what was walked before
abbrev pub WalksStatement : Table → Names → Guard → Statement → (old new : Walked) → Type 0
WalksStatement t n g s old new =
    (all : List Manner) → AreFirsts old.before all
    → Walks all (units_of_statement (context_for t n) (formula_at (arena old.exprs) g.when) all s)
    (statement_gives (formulas (context_for t n)) (context_for t n) (view_guard (arena old.exprs) g) s)
    (statement_places (context_for t n) s) (statement_manners (context_for t n) s) old new

-- statements one after another
abbrev pub WalksStatements : Table → Names → Guard → Statements → (old new : Walked) → Type 0
WalksStatements t n g ss old new =
    (all : List Manner) → AreFirsts old.before all
    → Walks all (units_of_statements (context_for t n) (formula_at (arena old.exprs) g.when) all ss)
    (statements_give (formulas (context_for t n)) (context_for t n) (view_guard (arena old.exprs) g) ss)
    (statements_places (context_for t n) ss) (statements_manners (context_for t n) ss) old new

-- what is after a statement, whatever the answer
abbrev pub StandsStatement : Table → Names → Guard → Statement → (old new : Walked) → Type 0
StandsStatement t n g s old new =
    StillStands (statement_gives (formulas (context_for t n)) (context_for t n) (view_guard (arena old.exprs) g) s)
    (statement_places (context_for t n) s) old new

-- after statements
abbrev pub StandsStatements : Table → Names → Guard → Statements → (old new : Walked) → Type 0
StandsStatements t n g ss old new =
    StillStands (statements_give (formulas (context_for t n)) (context_for t n) (view_guard (arena old.exprs) g) ss)
    (statements_places (context_for t n) ss) old new

-- a condition as a unit at its place, with an ELSE or without one
abbrev pub WalksCondition : Table → Names → (guard : ExprId) → Place → Tree → (other : Bool) → (old new : Walked) → Type 0
WalksCondition t n g p c other old new =
    (all : List Manner) → AreFirsts old.before all
    → Walks all
    (condition_unit (context_for t n) p c (choice_nodes (context_for t n) (formula_at (arena old.exprs) g) c other) ∷ [])
    [] [] [] old new

-- the guards of what is under a condition and of its ELSE, if nothing is refused
pub record AreBothGuards (t : Table) (n : Names) (g : ExprId) (c : Tree) (other : Bool) (old new : Walked) (gs : BothGuards) : Type 0 where
  pub then_inside : gs.then.0 < length (arena new.exprs)
  pub else_inside : gs.otherwise.0 < length (arena new.exprs)
  pub then : new.fault ≡ None
      → formula_at (arena new.exprs) gs.then ≡ (guard_then (formula_at (arena old.exprs) g) (condition_of (context_for t n) c)).what
  pub otherwise : new.fault ≡ None → other ≡ true
      → formula_at (arena new.exprs) gs.otherwise ≡ (guard_else (formula_at (arena old.exprs) g) (condition_of (context_for t n) c)).what
