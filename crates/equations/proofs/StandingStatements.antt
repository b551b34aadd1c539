-- What is after walks over statements, part by part, whatever they answer.
use Rattle.std.proofs.Common.{◌≡◌, Bool, Option, None, Some, List, [], ◌∷◌, ◌++◌, refl, sym, ap, ap₂, ◌∙◌, subst, option_map}
use Rattle.equations.proofs.Common.{is_some, Place, Table, Names, Stmt, arena, Formula, Statement, AWhen, Statements, statements_of, otherwise_of, view, view_stmt, guarded, condition_of, Context, formulas, statement_gives, else_gives, statements_give, Guard, view_guard, context_for, Manner, Walked, kept_formula, clear_before, StillStands, stands_alike, stands_less, stands_then, view_when, WalksStatement, StandsStatement, units_of_statement, statement_manners, statement_places, else_places, statements_places, When, AreBothGuards, WalksCondition}
use Rattle.abel_meaning.specs.Contributions as meant
use Rattle.equations.specs.declared.choices.BothGuards.{BothGuards}
use Rattle.equations.proofs.BuiltUnits.{guard_view}
use Rattle.equations.proofs.CheckedUnits.{view_parts}
use Rattle.equations.proofs.WalkedStatements.{Under, under_guard}

-- what is after a statement under a guard of formulas
abbrev pub StandsUnder : Context → meant.Guard Formula → Statement → (old new : Walked) → Type 0
StandsUnder d g s old new = StillStands (statement_gives (formulas d) d g s) (statement_places d s) old new

abbrev pub StandsAll : Context → meant.Guard Formula → Statements → (old new : Walked) → Type 0
StandsAll d g ss old new = StillStands (statements_give (formulas d) d g ss) (statements_places d ss) old new

-- a guard counts only if nothing was refused before
pub stands_under : (d : Context) (s : Statement) (g h : meant.Guard Formula) (old new : Walked) → (old.fault ≡ None → g ≡ h) → StandsUnder d g s old new → StandsUnder d h s old new
stands_under d s g h old new k x =
    stands_alike (statement_gives (formulas d) d g s) (statement_gives (formulas d) d h s) (statement_places d s) old new (λ e. ap (λ y. statement_gives (formulas d) d y s) (k e)) x

-- ---- WHEN

-- a condition if the walk ends
pub condition_stands : (t : Table) (n : Names) (g : Guard) (s : Statement) (old new : Walked) → StillStands [] [] old new → StandsStatement t n g s old new
condition_stands t n g s old new x =
    stands_less [] (statement_gives (formulas (context_for t n)) (context_for t n) (view_guard (arena old.exprs) g) s) [] (statement_places (context_for t n) s) old new x

module _ (t : Table) (n : Names) (g : Guard) (w : When) (s : Stmt) (gs : BothGuards) (b : Bool) (old mid far : Walked) (is : s ≡ w.then) (there : b ≡ is_some w.otherwise)
    (one : WalksCondition t n g.when w.place (view w.condition) b old mid) (both : AreBothGuards t n g.when (view w.condition) b old mid gs) (still : StillStands [] [] old mid)
    (inner : StandsStatement t n (record g { when = gs.then }) (view_stmt s) mid far) where
  abbrev d : Context
  d = context_for t n

  abbrev k : Formula
  k = condition_of d (view w.condition)

  abbrev h : meant.Guard Formula
  h = view_guard (arena old.exprs) g

  abbrev under : meant.Guard Formula
  under = guarded (formulas d) h k

  abbrev beside : meant.Guard Formula
  beside = guarded (formulas d) h ((formulas d).not k)

  then_guard : mid.fault ≡ None → view_guard (arena mid.exprs) (record g { when = gs.then }) ≡ under
  then_guard e = guard_view d (arena mid.exprs) (arena old.exprs) g (record g { when = gs.then }) k refl refl (both.then e)

  then_part : StandsUnder d under (view_stmt s) mid far
  then_part = stands_under d (view_stmt s) (view_guard (arena mid.exprs) (record g { when = gs.then })) under mid far then_guard inner

  -- after the condition
  behind : (gives : List (meant.Contribution Formula)) (places : List Place) (new : Walked) → StillStands gives places mid new → StillStands gives places old new
  behind gives places new x = stands_then old.before [] _ [] gives [] places old mid new (one old.before (λ i p. refl)) still x

  whole : (o : Option Stmt) (new : Walked) → w.otherwise ≡ o
      → StillStands (statement_gives (formulas d) d under (view_stmt s) ++ else_gives (formulas d) d beside (otherwise_of (option_map view_stmt o))) (statement_places d (view_stmt s) ++ else_places d (otherwise_of (option_map view_stmt o))) mid new
      → StandsStatement t n g (view_when w) old new
  whole o new e x =
      subst (λ v. StandsUnder d h v old new) (sym (view_parts w ∙ ap₂ (λ y z. AWhen w.place (view w.condition) (view_stmt y) (otherwise_of (option_map view_stmt z))) (sym is) e))
      (behind (statement_gives (formulas d) d under (view_stmt s) ++ else_gives (formulas d) d beside (otherwise_of (option_map view_stmt o))) (statement_places d (view_stmt s) ++ else_places d (otherwise_of (option_map view_stmt o))) new x)

  -- if the walk ends after its statement
  pub then_stands : StandsStatement t n g (view_when w) old far
  then_stands =
      let z = otherwise_of (option_map view_stmt w.otherwise) in
      whole w.otherwise far refl (stands_less (statement_gives (formulas d) d under (view_stmt s)) (else_gives (formulas d) d beside z) (statement_places d (view_stmt s)) (else_places d z) mid far then_part)

  pub both_stands : WalksStatement t n (record g { when = gs.then }) (view_stmt s) mid far → (x : Stmt) (new : Walked) → w.otherwise ≡ Some x → StandsStatement t n (record g { when = gs.otherwise }) (view_stmt x) far new
      → StandsStatement t n g (view_when w) old new
  both_stands walks x new e outer =
      let there_walked : Under d mid.before under (view_stmt s) mid far = under_guard d mid.before (view_stmt s) (view_guard (arena mid.exprs) (record g { when = gs.then })) under mid far then_guard (walks mid.before (λ i p. refl)) in
      whole (Some x) new e
      (stands_then mid.before (statement_manners d (view_stmt s)) (units_of_statement d under.holds mid.before (view_stmt s)) (statement_gives (formulas d) d under (view_stmt s)) (statement_gives (formulas d) d beside (view_stmt x)) (statement_places d (view_stmt s)) (statement_places d (view_stmt x)) mid far new there_walked then_part
      (stands_under d (view_stmt x) (view_guard (arena far.exprs) (record g { when = gs.otherwise })) beside far new
      (λ f. guard_view d (arena far.exprs) (arena old.exprs) g (record g { when = gs.otherwise }) ((formulas d).not k) refl refl
      (kept_formula (arena mid.exprs) (arena far.exprs) gs.otherwise there_walked.keeps both.else_inside ∙ both.otherwise (clear_before mid.fault _ _ (sym f ∙ there_walked.fault)) (there ∙ ap is_some e)))
      outer))

-- ---- lists

-- one statement more
pub next_stands : (d : Context) (all : List Manner) (g : meant.Guard Formula) (left more : List Statement) (s : Statement) (old mid new : Walked) → left ≡ s ∷ more → Under d all g s old mid → StandsUnder d g s old mid
    → StandsAll d g (statements_of more) mid new → StandsAll d g (statements_of left) old new
next_stands d all g left more s old mid new e w a b =
    subst (λ zs. StandsAll d g (statements_of zs) old new) (sym e)
    (stands_then all (statement_manners d s) (units_of_statement d g.holds all s) (statement_gives (formulas d) d g s) (statements_give (formulas d) d g (statements_of more)) (statement_places d s) (statements_places d (statements_of more)) old mid new w a b)

-- if the walk ends at a statement
pub last_stands : (d : Context) (g : meant.Guard Formula) (left more : List Statement) (s : Statement) (old new : Walked) → left ≡ s ∷ more → StandsUnder d g s old new → StandsAll d g (statements_of left) old new
last_stands d g left more s old new e a =
    subst (λ zs. StandsAll d g (statements_of zs) old new) (sym e)
    (stands_less (statement_gives (formulas d) d g s) (statements_give (formulas d) d g (statements_of more)) (statement_places d s) (statements_places d (statements_of more)) old new a)
