-- Walks over statements, part by part.
use Rattle.std.proofs.Common.{◌≡◌, Bool, Option, None, Some, List, [], ◌∷◌, ◌++◌, refl, sym, ap, ap₂, ◌∙◌, subst, append-nil, option_map}
use Rattle.equations.proofs.Common.{is_some, Table, Names, Stmt, arena, Formula, Statement, AWhen, AGroup, Otherwise, NoElse, AnElse, Statements, NoStatement, MoreStatements, statements_of, otherwise_of, view, view_stmt, guarded, choice_nodes, condition_of, guard_then, guard_else, has_else, Context, formulas, statement_gives, else_gives, statements_give, Guard, view_guard, context_for, SectionFault, Manner, Walked, AreFirsts, units_refused, Walks, refused_append, kept_formula, clear_before, walks_then, walks_alike, walks_none, condition_unit, view_when, WalksStatement, units_of_statement, units_of_else, units_of_statements, statement_manners, else_manners, statements_manners, statement_places, else_places, statements_places, When, AreBothGuards, WalksCondition}
use Rattle.abel_meaning.specs.Contributions as meant
use Rattle.equations.specs.declared.choices.BothGuards.{BothGuards}
use Rattle.equations.proofs.BuiltUnits.{guard_view}
use Rattle.equations.proofs.CheckedUnits.{view_parts}

-- what a walk over a statement under a guard of formulas leaves
abbrev pub Under : Context → List Manner → meant.Guard Formula → Statement → (old new : Walked) → Type 0
Under d all g s old new =
    Walks all (units_of_statement d g.holds all s) (statement_gives (formulas d) d g s) (statement_places d s) (statement_manners d s) old new

abbrev pub ElseUnder : Context → List Manner → meant.Guard Formula → Otherwise → (old new : Walked) → Type 0
ElseUnder d all g o old new =
    Walks all (units_of_else d g.holds all o) (else_gives (formulas d) d g o) (else_places d o) (else_manners d o) old new

abbrev pub AllUnder : Context → List Manner → meant.Guard Formula → Statements → (old new : Walked) → Type 0
AllUnder d all g ss old new =
    Walks all (units_of_statements d g.holds all ss) (statements_give (formulas d) d g ss) (statements_places d ss) (statements_manners d ss) old new

-- ---- refusals don't depend on the guard

mutual
  pub any_guard : (d : Context) (g h : Formula) (all : List Manner) (s : Statement) → units_refused (units_of_statement d g all s) ≡ units_refused (units_of_statement d h all s)
  any_guard d g h all (AWhen place c s other) =
      simp (refused_append, any_guard d (guard_then g (condition_of d c)).what (guard_then h (condition_of d c)).what all s, any_else d (guard_else g (condition_of d c)).what (guard_else h (condition_of d c)).what (all ++ statement_manners d s) other)
  any_guard d g h all (AGroup ss) = any_guards d g h all ss
  any_guard d g h all _ = refl

  pub any_else : (d : Context) (g h : Formula) (all : List Manner) (o : Otherwise) → units_refused (units_of_else d g all o) ≡ units_refused (units_of_else d h all o)
  any_else d g h all NoElse = refl
  any_else d g h all (AnElse s) = any_guard d g h all s

  pub any_guards : (d : Context) (g h : Formula) (all : List Manner) (ss : Statements) → units_refused (units_of_statements d g all ss) ≡ units_refused (units_of_statements d h all ss)
  any_guards d g h all NoStatement = refl
  any_guards d g h all (MoreStatements s ss) =
      simp (refused_append, any_guard d g h all s, any_guards d g h (all ++ statement_manners d s) ss)

-- so a guard counts only if nothing was refused before
pub under_guard : (d : Context) (all : List Manner) (s : Statement) (g h : meant.Guard Formula) (old new : Walked) → (old.fault ≡ None → g ≡ h) → Under d all g s old new → Under d all h s old new
under_guard d all s g h old new e w = by_fault old.fault refl
  where
    by_fault : (f : Option SectionFault) → old.fault ≡ f → Under d all h s old new
    by_fault None k = subst (λ v. Under d all v s old new) (e k) w
    by_fault (Some f) k =
        walks_alike all (statement_manners d s) (units_of_statement d g.holds all s) (units_of_statement d h.holds all s) (statement_gives (formulas d) d g s) (statement_gives (formulas d) d h s) (statement_places d s) (statement_places d s) old new f k (any_guard d g.holds h.holds all s) w

-- ---- WHEN

module _ (t : Table) (n : Names) (g : Guard) (w : When) (s : Stmt) (gs : BothGuards) (b : Bool) (old mid far : Walked) (is : s ≡ w.then) (there : b ≡ is_some w.otherwise)
    (one : WalksCondition t n g.when w.place (view w.condition) b old mid) (both : AreBothGuards t n g.when (view w.condition) b old mid gs)
    (inner : WalksStatement t n (record g { when = gs.then }) (view_stmt s) mid far) where
  abbrev d : Context
  d = context_for t n

  abbrev k : Formula
  k = condition_of d (view w.condition)

  abbrev h : meant.Guard Formula
  h = view_guard (arena old.exprs) g

  abbrev under : List Manner → List Manner
  under all = all ++ statement_manners d (view_stmt s)

  then_walked : (all : List Manner) → AreFirsts old.before all → Under d all (guarded (formulas d) h k) (view_stmt s) mid far
  then_walked all a =
      under_guard d all (view_stmt s) (view_guard (arena mid.exprs) (record g { when = gs.then })) (guarded (formulas d) h k) mid far
      (λ e. guard_view d (arena mid.exprs) (arena old.exprs) g (record g { when = gs.then }) k refl refl (both.then e))
      (inner all (subst (AreFirsts mid.before) (append-nil all) (one all a).manners))

  walked : (o : Option Stmt) (new : Walked) (all : List Manner) → w.otherwise ≡ o → is_some o ≡ has_else (otherwise_of (option_map view_stmt o)) → AreFirsts old.before all
      → ElseUnder d (under all) (guarded (formulas d) h ((formulas d).not k)) (otherwise_of (option_map view_stmt o)) far new → Under d all h (view_when w) old new
  walked o new all e has a behind =
      let c = view w.condition in
      let z = otherwise_of (option_map view_stmt o) in
      let unit = subst (λ x. Walks all (condition_unit d w.place c (choice_nodes d h.holds c x) ∷ []) [] [] [] old mid) (there ∙ ap is_some e ∙ has) (one all a) in
      let both_under = walks_then all (statement_manners d (view_stmt s)) _ _ _ _ _ _ _ mid far new (then_walked all a) behind in
      subst (λ v. Under d all h v old new) (sym (view_parts w ∙ ap₂ (λ x y. AWhen w.place c (view_stmt x) (otherwise_of (option_map view_stmt y))) (sym is) e))
      (walks_then all [] _ _ _ _ _ _ _ old mid new unit
      (subst (λ ms. Walks ms (units_of_statement d (guarded (formulas d) h k).holds all (view_stmt s) ++ units_of_else d (guarded (formulas d) h ((formulas d).not k)).holds (under all) z) (statement_gives (formulas d) d (guarded (formulas d) h k) (view_stmt s) ++ else_gives (formulas d) d (guarded (formulas d) h ((formulas d).not k)) z) (statement_places d (view_stmt s) ++ else_places d z) (statement_manners d (view_stmt s) ++ else_manners d z) mid new) (sym (append-nil all)) both_under))

  -- without an ELSE, and with one
  pub alone_walked : w.otherwise ≡ None → WalksStatement t n g (view_when w) old far
  alone_walked e all a = walked None far all e refl a (walks_none (under all) far (then_walked all a).manners)

  pub both_walked : (x : Stmt) (new : Walked) → w.otherwise ≡ Some x → WalksStatement t n (record g { when = gs.otherwise }) (view_stmt x) far new → WalksStatement t n g (view_when w) old new
  both_walked x new e outer all a =
      let inside = then_walked all a in
      walked (Some x) new all e refl a
      (under_guard d (under all) (view_stmt x) (view_guard (arena far.exprs) (record g { when = gs.otherwise })) (guarded (formulas d) h ((formulas d).not k)) far new
      (λ f. guard_view d (arena far.exprs) (arena old.exprs) g (record g { when = gs.otherwise }) ((formulas d).not k) refl refl
      (kept_formula (arena mid.exprs) (arena far.exprs) gs.otherwise inside.keeps both.else_inside ∙ both.otherwise (clear_before mid.fault _ _ (sym f ∙ inside.fault)) (there ∙ ap is_some e)))
      (outer (under all) inside.manners))

-- ---- lists

-- after a walk over the first of these statements: whatever one over those that are left leaves, one over all leaves
pub record LeftBehind (d : Context) (all : List Manner) (g : meant.Guard Formula) (ss left : Statements) (old mid : Walked) : Type 0 where
  pub seen : List Manner
  pub firsts : AreFirsts mid.before seen
  pub rest : (new : Walked) → AllUnder d seen g left mid new → AllUnder d all g ss old new

-- one statement more
pub next_behind : (d : Context) (all : List Manner) (g : meant.Guard Formula) (ss : Statements) (left more : List Statement) (s : Statement) (old mid new : Walked) → left ≡ s ∷ more
    → (v : LeftBehind d all g ss (statements_of left) old mid) → Under d v.seen g s mid new → LeftBehind d all g ss (statements_of more) old new
next_behind d all g ss left more s old mid new e v w =
    record {
      seen = v.seen ++ statement_manners d s;
      firsts = w.manners;
      rest = λ last x.
          v.rest last
          (subst (λ zs. AllUnder d v.seen g (statements_of zs) mid last) (sym e)
          (walks_then v.seen (statement_manners d s) (statements_manners d (statements_of more)) (units_of_statement d g.holds v.seen s) (units_of_statements d g.holds (v.seen ++ statement_manners d s) (statements_of more)) (statement_gives (formulas d) d g s) (statements_give (formulas d) d g (statements_of more)) (statement_places d s) (statements_places d (statements_of more)) mid new last w x));
    }
