-- What is refused of a unit doesn't depend on its guard, which so counts only if nothing was refused before.
use Rattle.std.proofs.Common.{◌≡◌, ℕ, false, Result, Option, None, Some, List, [], ◌∷◌, ◌++◌, ◌<◌, length, refl, sym, ap, ◌∙◌, subst, append-nil}
use Rattle.state_diagrams.proofs.Common.{Place, arena, formula_at, Formula, Statements, guarded, Context, formulas, statements_give, Guard, SectionFault, Keeps, Manner, Walked, AreFirsts, CountedUnit, units_refused, Walks, kept_formula, clear_before, walks_alike, walks_then, statements_manners, statements_places, units_of_statements, guard_kept, guard_view, StandsFor, WalksUnder, WalksWork, Work, before, context_for, is_some, Node, earlier, first_refusal, section_order, Builds, BuildsNodes, part, AfterMaking, standing, whole, unit_made, view_guard, Table, Names, WalksStatements}
use Rattle.abel_meaning.specs.Contributions as meant
use Rattle.equations.proofs.WalkedStatements.{any_guards}

-- works that are refused alike, and are the same if nothing was refused before
work_alike : (all ms : List Manner) (v w : Work) (old new : Walked) → units_refused v.units ≡ units_refused w.units → (old.fault ≡ None → v ≡ w) → WalksWork all v ms old new → WalksWork all w ms old new
work_alike all ms v w old new r e k = by_fault old.fault refl
  where
    by_fault : (f : Option SectionFault) → old.fault ≡ f → WalksWork all w ms old new
    by_fault None o = subst (λ (x : Work). WalksWork all x ms old new) (e o) k
    by_fault (Some f) o = walks_alike all ms v.units w.units v.gives w.gives v.places w.places old new f o r k

-- so a walk under a guard is one under any guard that this one represents
pub under_any : (g : Guard) (work : meant.Guard Formula → List Manner → Work) (ms : List Manner) (old new : Walked) → ((h k : meant.Guard Formula) (all : List Manner) → units_refused (work h all).units ≡ units_refused (work k all).units)
    → ((all : List Manner) → AreFirsts old.before all → WalksWork all (work (view_guard (arena old.exprs) g) all) ms old new) → WalksUnder g work ms old new
under_any g work ms old new same a = λ h e all f.
    let k = view_guard (arena old.exprs) g in
    work_alike all ms (work k all) (work h all) old new (same k h all) (λ o. ap (λ (x : meant.Guard Formula). work x all) (e o)) (a all f)

abbrev pub statements_work : Context → List Manner → Statements → meant.Guard Formula → Work
statements_work d all ss h =
    record { units = units_of_statements d h.holds all ss; gives = statements_give (formulas d) d h ss; places = statements_places d ss }

pub statements_under : (t : Table) (n : Names) (g : Guard) (ss : Statements) (old new : Walked) → WalksStatements t n g ss old new
    → WalksUnder g (λ h all. statements_work (context_for t n) all ss h) (statements_manners (context_for t n) ss) old new
statements_under t n g ss old new a =
    let d = context_for t n in
    under_any g (λ h all. statements_work d all ss h) (statements_manners d ss) old new (λ h k all. any_guards d h.holds k.holds all ss) a

-- ---- a unit of nodes alone

-- it is made or stopped, if nothing is refused so far
pub nodes_made : (p : Place) (rs : List SectionFault) (n : ℕ) (f : Option SectionFault) (old now new : Walked) (ns : List Node) (r : Result Unit SectionFault)
    → f ≡ first_refusal section_order rs → now ≡ record old { fault = earlier section_order old.fault f } → is_some now.fault ≡ false → BuildsNodes (part p n ∷ []) old.exprs ns r → AfterMaking r (record now { exprs = ns }) new
    → (all : List Manner) → AreFirsts old.before all → Walks all (whole p rs n ∷ []) [] [] [] old new
nodes_made p rs n f old now new ns r e k s b m all a =
    let made : Walked = record now { exprs = ns } in
    unit_made all p rs n [] [] f old now made new r e k s a refl refl
    (subst (λ (w : Walked). Builds (part p n ∷ []) [] [] (standing old) (record { exprs = ns; list = w.list.items }) r) (sym k) (b old.list.items)) m

-- ---- guards after a walk

-- if nothing is refused after it, nothing was before
pub walked_clear : {all ms : List Manner} {us : List CountedUnit} {gs : List (meant.Contribution Formula)} {ps : List Place} (old new : Walked) → Walks all us gs ps ms old new → new.fault ≡ None → old.fault ≡ None
walked_clear old new w e = clear_before old.fault _ _ (sym e ∙ w.fault)

pub kept_guard : (g : Guard) (h : meant.Guard Formula) (old new : Walked) → Keeps (arena old.exprs) (arena new.exprs) → g.when.0 < length (arena old.exprs) → (new.fault ≡ None → old.fault ≡ None) → StandsFor g old h → StandsFor g new h
kept_guard g h old new k lt clear e =
    λ o. guard_kept (arena old.exprs) (arena new.exprs) g (kept_formula (arena old.exprs) (arena new.exprs) g.when k lt) ∙ e (clear o)

-- the guard of what is under one more condition
pub chosen_guard : (d : Context) (g k : Guard) (h : meant.Guard Formula) (f : Formula) (old new : Walked) → k.dontcare ≡ g.dontcare → k.block ≡ g.block → (new.fault ≡ None → old.fault ≡ None) → StandsFor g old h
    → (new.fault ≡ None → formula_at (arena new.exprs) k.when ≡ (formulas d).both (formula_at (arena old.exprs) g.when) f) → StandsFor k new (guarded (formulas d) h f)
chosen_guard d g k h f old new p q clear e w =
    λ o. guard_view d (arena new.exprs) (arena old.exprs) g k f p q (w o) ∙ ap (λ (x : meant.Guard Formula). guarded (formulas d) x f) (e (clear o))

-- ---- one after another

-- how signals were assigned after a unit that assigns none
pub still_firsts : (all : List Manner) (new : Walked) → AreFirsts new.before (all ++ []) → AreFirsts new.before all
still_firsts all new a = subst (AreFirsts new.before) (append-nil all) a

-- after a unit that assigns no signal
pub unit_then : (all ms : List Manner) (v w : Work) (old mid new : Walked) → WalksWork all v [] old mid → WalksWork all w ms mid new → WalksWork all (before v w) ms old new
unit_then all ms v w old mid new a b =
    walks_then all [] ms v.units w.units v.gives w.gives v.places w.places old mid new a (subst (λ ns. WalksWork ns w ms mid new) (sym (append-nil all)) b)

module _ (g : Guard) (v w : meant.Guard Formula → List Manner → Work) where
  pub under_then : (ms ns : List Manner) (old mid new : Walked) → g.when.0 < length (arena old.exprs) → WalksUnder g v ms old mid → WalksUnder g w ns mid new
      → WalksUnder g (λ h all. before (v h all) (w h (all ++ ms))) (ms ++ ns) old new
  under_then ms ns old mid new lt a b = λ h e all f.
      let x = a h e all f in
      let one = v h all in
      let rest = w h (all ++ ms) in
      walks_then all ms ns one.units rest.units one.gives rest.gives one.places rest.places old mid new x
      (b h (kept_guard g h old mid x.keeps lt (walked_clear old mid x) e) (all ++ ms) x.manners)

  pub unit_under : (ms : List Manner) (old mid new : Walked) → g.when.0 < length (arena old.exprs) → WalksUnder g v [] old mid → WalksUnder g w ms mid new → WalksUnder g (λ h all. before (v h all) (w h all)) ms old new
  unit_under ms old mid new lt a b = λ h e all f.
      let x = a h e all f in
      unit_then all ms (v h all) (w h all) old mid new x (b h (kept_guard g h old mid x.keeps lt (walked_clear old mid x) e) all (still_firsts all mid x.manners))
