-- Walks over transitions, part by part.
use Rattle.std.proofs.Common.{◌≡◌, ℕ, ◌+◌, ◌<◌, Bool, true, Option, None, Some, List, [], ◌∷◌, ◌++◌, length, map, drop, get_or, refl, sym, ap, ◌∙◌, subst, option_map}
use Rattle.state_diagrams.proofs.Common.{at_drop_more, Place, Table, arena, Formula, Goal, Tree, Branch, AnIf, ACase, OtherBranch, NoBranch, ABranch, Choices, choices_of, view, guarded, has_other, choice_nodes, condition_of, Context, other_gives, formulas, Guard, Keeps, view_guard, expression_found, Aim, Manner, Walked, AreFirsts, value_refused, Walks, walks_then, walks_none, AreBothGuards, WalksCondition, WalksStatements, case_unit, branch_manners, branches_manners, choices_manners, other_manners, signals_of, units_of_other, Machine, StandsFor, WalksBranch, WalksBranches, WalksChoices, WalksConditions, WalksValue, context_of_machine, branch_work, branches_work, choices_work, goal_unit, other_branch_places, Work, before, CountedUnit, Stmt, view_stmt, Statements, with_statements, statements_manners, view_goal, view_if, is_some, Arm, If, other_of, view_arm}
use Rattle.abel_meaning.specs.Contributions as meant
use Rattle.equations.specs.declared.choices.BothGuards.{BothGuards}
use Rattle.equations.specs.Builds.{condition_unit}
use Rattle.state_diagrams.proofs.AnyGuards.{chosen_guard, kept_guard, statements_under, statements_work, still_firsts, under_any, under_then, unit_then, unit_under, walked_clear}
use Rattle.state_diagrams.proofs.GuardLaws.{Choice, if_parts}

-- ---- goals

-- a unit that gives nothing
abbrev pub unit_work : CountedUnit → Work
unit_work u = record { units = u ∷ []; gives = []; places = [] }

-- the statements of a WITH of the code
abbrev pub with_list : Option (List Stmt) → Statements
with_list o = with_statements (option_map (λ l. map view_stmt l) o)

-- a goal's own unit, and the statements after it
pub goal_walk : {D : Type 0} (t : Table) (m : Machine D) (g : Guard) (x : Goal) (old mid new : Walked) → g.when.0 < length (arena old.exprs)
    → WalksValue t m g x old mid → WalksStatements t m.scope.now g (with_list x.with) mid new → WalksBranch t m g (view_goal x) old new
goal_walk t m g x old mid new lt a b =
    let d = context_of_machine t m in
    let ss = with_list x.with in
    let value = λ (h : meant.Guard Formula) (all : List Manner). goal_unit d h m.registers.now x (value_refused x.place (length m.registers.now) (expression_found d.names (view x.value))) in
    unit_under g value (λ h all. statements_work d all ss h) (statements_manners d ss) old mid new lt (under_any g value [] old mid (λ h k all. refl) a) (statements_under t m.scope.now g ss mid new b)

-- ---- IF

abbrev OtherWalks : Context → List Manner → meant.Guard Formula → List Aim → OtherBranch → (old new : Walked) → Type 0
OtherWalks d all h xs o old new =
    Walks all (units_of_other d h.holds (length xs) all o) (other_gives (formulas d) d h (signals_of xs) o) (other_branch_places d xs o) (other_manners d o) old new

abbrev pub WalksOther : {D : Type 0} → Table → Machine D → Guard → OtherBranch → (old new : Walked) → Type 0
WalksOther t m g NoBranch old new = new ≡ old
WalksOther t m g (ABranch b) old new = WalksBranch t m g b old new

other_walk : {D : Type 0} (t : Table) (m : Machine D) (g : Guard) (h : meant.Guard Formula) (o : OtherBranch) (all : List Manner) (old new : Walked) → (has_other o ≡ true → StandsFor g old h)
    → AreFirsts old.before all → WalksOther t m g o old new → OtherWalks (context_of_machine t m) all h m.registers.now o old new
other_walk t m g h NoBranch all old new e f y = subst (Walks all [] [] [] [] old) (sym y) (walks_none all old f)
other_walk t m g h (ABranch b) all old new e f y = y h (e refl) all f

-- its condition, its branch, and that of its ELSE
parts_walk : {D : Type 0} (t : Table) (m : Machine D) (g : Guard) (gs : BothGuards) (p : Place) (c : Tree) (b : Branch) (o : OtherBranch) (old mid far new : Walked)
    → WalksCondition t m.scope.now g.when p c (has_other o) old mid → AreBothGuards t m.scope.now g.when c (has_other o) old mid gs
    → WalksBranch t m (record g { when = gs.then }) b mid far → WalksOther t m (record g { when = gs.otherwise }) o far new → WalksBranch t m g (AnIf p c b o) old new
parts_walk t m g gs p c b o old mid far new a guards x y = λ h e all f.
    let d = context_of_machine t m in
    let k = condition_of d c in
    let own = λ (x : meant.Guard Formula) (ms : List Manner). unit_work (condition_unit d p c (choice_nodes d x.holds c (has_other o))) in
    let unit = under_any g own [] old mid (λ x y ms. refl) a h e all f in
    let clear = walked_clear old mid unit in
    let then : Guard = record g { when = gs.then } in
    let else : Guard = record g { when = gs.otherwise } in
    let v = x (guarded (formulas d) h k) (chosen_guard d g then h k old mid refl refl clear e guards.then) all (still_firsts all mid unit.manners) in
    let j = guarded (formulas d) h ((formulas d).not k) in
    let stands = λ (both : has_other o ≡ true).
    kept_guard else j mid far v.keeps guards.else_inside (walked_clear mid far v) (chosen_guard d g else h ((formulas d).not k) old mid refl refl clear e (λ z. guards.otherwise z both)) in
    let xs = m.registers.now in
    let one = branch_work d (guarded (formulas d) h k) xs all b in
    let other : Work = record { units = units_of_other d j.holds (length xs) (all ++ branch_manners d b) o; gives = other_gives (formulas d) d j (signals_of xs) o; places = other_branch_places d xs o } in
    unit_then all (branch_manners d (AnIf p c b o)) (own h all) (before one other) old mid new unit
    (walks_then all (branch_manners d b) (other_manners d o) one.units other.units one.gives other.gives one.places other.places mid far new v (other_walk t m else j o (all ++ branch_manners d b) far new stands v.manners y))

pub other_there : (o : Option Arm) → is_some o ≡ has_other (other_of (option_map view_arm o))
other_there None = refl
other_there (Some a) = refl

-- an IF of the code
pub if_walk : {D : Type 0} (t : Table) (m : Machine D) (g : Guard) (gs : BothGuards) (i : If) (both : Bool) (old mid far new : Walked) → both ≡ is_some i.otherwise
    → WalksCondition t m.scope.now g.when i.place (view i.condition) both old mid → AreBothGuards t m.scope.now g.when (view i.condition) both old mid gs
    → WalksBranch t m (record g { when = gs.then }) (view_arm i.then) mid far → WalksOther t m (record g { when = gs.otherwise }) (other_of (option_map view_arm i.otherwise)) far new → WalksBranch t m g (view_if i) old new
if_walk t m g gs i both old mid far new e a guards x y =
    let c = view i.condition in
    let o = other_of (option_map view_arm i.otherwise) in
    let there = e ∙ other_there i.otherwise in
    subst (λ (b : Branch). WalksBranch t m g b old new) (sym (if_parts i))
    (parts_walk t m g gs i.place c (view_arm i.then) o old mid far new (subst (λ (b : Bool). WalksCondition t m.scope.now g.when i.place c b old mid) there a)
    (subst (λ (b : Bool). AreBothGuards t m.scope.now g.when c b old mid gs) there guards) x y)

-- ---- CASE

-- the arms after the conditions
pub case_walk : {D : Type 0} (t : Table) (m : Machine D) (g : Guard) (p : Place) (cs : Choices) (old mid new : Walked) → g.when.0 < length (arena old.exprs)
    → WalksConditions t m.scope.now g.when p cs old mid → WalksChoices t m g cs mid new → WalksBranch t m g (ACase p cs) old new
case_walk t m g p cs old mid new lt a b =
    let d = context_of_machine t m in
    let own = λ (h : meant.Guard Formula) (all : List Manner). unit_work (case_unit d h.holds p cs) in
    unit_under g own (λ h all. choices_work d h m.registers.now all cs) (choices_manners d cs) old mid new lt (under_any g own [] old mid (λ h k all. refl) a) b

-- an arm before others, under its own guard
pub choices_walk : {D : Type 0} (t : Table) (m : Machine D) (g k : Guard) (c : Choice) (cs : List Choice) (old mid new : Walked) → g.when.0 < length (arena old.exprs)
    → ((h : meant.Guard Formula) → StandsFor g old h → StandsFor k old (guarded (formulas (context_of_machine t m)) h (condition_of (context_of_machine t m) c.0)))
    → WalksBranch t m k c.1.1 old mid → WalksChoices t m g (choices_of cs) mid new → WalksChoices t m g (choices_of (c ∷ cs)) old new
choices_walk t m g k c cs old mid new lt under a b =
    let d = context_of_machine t m in
    let xs = m.registers.now in
    let inner = λ (h : meant.Guard Formula). guarded (formulas d) h (condition_of d c.0) in
    under_then g (λ h all. branch_work d (inner h) xs all c.1.1) (λ h all. choices_work d h xs all (choices_of cs)) (branch_manners d c.1.1) (choices_manners d (choices_of cs)) old mid new lt
    (λ h e. a (inner h) (under h e)) b

-- ---- lists

pub branch_keeps : {D : Type 0} (t : Table) (m : Machine D) (g : Guard) (b : Branch) (old new : Walked) → WalksBranch t m g b old new → Keeps (arena old.exprs) (arena new.exprs)
branch_keeps t m g b old new w = (w (view_guard (arena old.exprs) g) (λ o. refl) old.before (λ s p. refl)).keeps

pub branch_clear : {D : Type 0} (t : Table) (m : Machine D) (g : Guard) (b : Branch) (old new : Walked) → WalksBranch t m g b old new → new.fault ≡ None → old.fault ≡ None
branch_clear t m g b old new w = walked_clear old new (w (view_guard (arena old.exprs) g) (λ o. refl) old.before (λ s p. refl))

-- what is left of a list at a place
pub rest_at : {A B : Type 0} (f : A → B) (xs : List A) (i : ℕ) (x : A) → i < length xs → x ≡ get_or xs i x → map f (drop i xs) ≡ f x ∷ map f (drop (i + 1) xs)
rest_at f xs i x h e = at_drop_more (map f) xs i x h ∙ ap (λ y. f y ∷ map f (drop (i + 1) xs)) (sym e)

-- a transition before others
pub branches_walk : {D : Type 0} (t : Table) (m : Machine D) (g : Guard) (b : Branch) (bs : List Branch) (old mid new : Walked) → g.when.0 < length (arena old.exprs)
    → WalksBranch t m g b old mid → WalksBranches t m g bs mid new → WalksBranches t m g (b ∷ bs) old new
branches_walk t m g b bs old mid new lt x y =
    let d = context_of_machine t m in
    let xs = m.registers.now in
    under_then g (λ h all. branch_work d h xs all b) (λ h all. branches_work d h xs all bs) (branch_manners d b) (branches_manners d bs) old mid new lt x y
