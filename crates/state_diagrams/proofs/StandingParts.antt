-- What is after walks over transitions, states and diagrams, part by part, whatever they answer.
use Rattle.std.proofs.Common.{◌≡◌, ℕ, ◌<◌, true, Option, None, Some, List, [], ◌∷◌, ◌++◌, length, map, refl, sym, ap, ◌∙◌, subst, option_map, Bool, filter}
use Rattle.state_diagrams.proofs.Common.{Place, Table, ExprId, arena, formula_at, Formula, Goal, Tree, Branch, AnIf, ACase, OtherBranch, NoBranch, ABranch, Choices, choices_of, statements_of, StateTree, view, view_state, guarded, has_other, choice_nodes, condition_of, Context, other_gives, state_gives, formulas, term_of, no_matches, Guard, SectionFault, view_guard, expression_found, Aim, Manner, Walked, IsBit, value_refused, CountedUnit, Walks, AreBothGuards, WalksCondition, WalksStatements, StandsStatements, Statements, case_unit, branch_manners, signals_of, state_guard, statements_manners, Machine, StandsFor, WalksBranch, WalksConditions, WalksUnit, WalksValue, context_of_machine, branch_work, branches_work, choices_work, goal_unit, header_work, others_work, state_bit, state_places, state_unit, state_work, states_work, where_holds, within_work, other_branch_places, Work, before, StandsWork, StillStands, standing, stands_less, stands_same, stands_then, view_goal, view_if, is_some, Arm, If, other_of, view_arm, target_member, registers_given, registers_refused, aims_places, given_by, places_by, WalksBlock, state_manners, StandsBlock, StandsBranch, StandsBranches, StandsChoices, StandsOthers, StandsStates, StandsUnder, first_of_each, is_other, other_matches, other_places, other_signal, no_block, states_give, StandsValue}
use Rattle.abel_meaning.specs.Contributions as meant
use Rattle.abel_tree.specs.declared.diagrams.Diagram.{Diagram}
use Rattle.equations.specs.declared.choices.BothGuards.{BothGuards}
use Rattle.section_targets.specs.Appending.{Leaves}
use Rattle.equations.specs.Builds.{condition_unit}
use Rattle.state_diagrams.proofs.AnyGuards.{chosen_guard, kept_guard, statements_under, statements_work, under_any, walked_clear}
use Rattle.state_diagrams.proofs.GuardLaws.{Choice, if_parts}
use Rattle.state_diagrams.proofs.StateBits.{guard_is_state}
use Rattle.state_diagrams.proofs.StateLaws.{guard_is}
use Rattle.state_diagrams.proofs.WalkedBranches.{other_there, unit_work, with_list}
use Rattle.state_diagrams.proofs.WalkedDiagrams.{register_signals, registers_clear}

-- ---- guards

-- a guard counts only if nothing was refused before
pub under_still : (g : Guard) (work : meant.Guard Formula → Work) (old new : Walked) → StandsWork (work (view_guard (arena old.exprs) g)) old new → StandsUnder g work old new
under_still g work old new a = λ h e. by_fault h e old.fault refl
  where
    by_fault : (h : meant.Guard Formula) → StandsFor g old h → (f : Option SectionFault) → old.fault ≡ f → StandsWork (work h) old new
    by_fault h e None o = subst (λ (k : meant.Guard Formula). StandsWork (work k) old new) (e o) a
    by_fault h e (Some f) o = stands_same (work h).gives (work h).places old new (a.stays f o)

-- ---- one after another

module _ (g : Guard) (us : meant.Guard Formula → List CountedUnit) (v w : meant.Guard Formula → Work) where
  pub stands_behind : (ms : List Manner) (old mid new : Walked) → g.when.0 < length (arena old.exprs) → ((h : meant.Guard Formula) → StandsFor g old h → Walks old.before (us h) (v h).gives (v h).places ms old mid) → StandsUnder g v old mid → StandsUnder g w mid new
      → StandsUnder g (λ h. before (v h) (w h)) old new
  stands_behind ms old mid new lt a b c = λ h e.
      let x = a h e in
      stands_then old.before ms (us h) (v h).gives (w h).gives (v h).places (w h).places old mid new x (b h e) (c h (kept_guard g h old mid x.keeps lt (walked_clear old mid x) e))

pub stands_front : (g : Guard) (v w : meant.Guard Formula → Work) (old new : Walked) → StandsUnder g v old new → StandsUnder g (λ h. before (v h) (w h)) old new
stands_front g v w old new b = λ h e. stands_less (v h).gives (w h).gives (v h).places (w h).places old new (b h e)

-- what is given after a unit that gives nothing, if the walk ends at the unit
pub nothing_given : (gs : List (meant.Contribution Formula)) (ps : List Place) (old new : Walked) → StillStands [] [] old new → StillStands gs ps old new
nothing_given gs ps old new s = stands_less [] gs [] ps old new s

-- the place of the same
pub stands_as : (gs : List (meant.Contribution Formula)) (ps : List Place) (old mid new : Walked) → standing new ≡ standing mid → StillStands gs ps old mid → StillStands gs ps old new
stands_as gs ps old mid new e s =
    record { front = subst (λ x. Leaves (standing old) x gs ps) (sym e) s.front; stays = λ f k. e ∙ s.stays f k }

-- ---- goals

pub goal_ends : {D : Type 0} (t : Table) (m : Machine D) (g : Guard) (x : Goal) (old new : Walked) → StandsValue t m g x old new → StandsBranch t m g (view_goal x) old new
goal_ends t m g x old new a =
    let d = context_of_machine t m in
    let ss = with_list x.with in
    let value = λ (h : meant.Guard Formula). goal_unit d h m.registers.now x [] in
    stands_front g value (statements_work d [] ss) old new (under_still g value old new a)

pub goal_stands : {D : Type 0} (t : Table) (m : Machine D) (g : Guard) (x : Goal) (old mid new : Walked) → g.when.0 < length (arena old.exprs)
    → WalksValue t m g x old mid → StandsValue t m g x old mid → StandsStatements t m.scope.now g (with_list x.with) mid new → StandsBranch t m g (view_goal x) old new
goal_stands t m g x old mid new lt walks a b =
    let d = context_of_machine t m in
    let ss = with_list x.with in
    let rs = value_refused x.place (length m.registers.now) (expression_found d.names (view x.value)) in
    let value = λ (h : meant.Guard Formula). goal_unit d h m.registers.now x [] in
    let refused = λ (h : meant.Guard Formula) (all : List Manner). goal_unit d h m.registers.now x rs in
    stands_behind g (λ h. (refused h []).units) value (statements_work d [] ss) [] old mid new lt
    (λ h e. under_any g refused [] old mid (λ h k all. refl) walks h e old.before (λ s p. refl)) (under_still g value old mid a) (under_still g (statements_work d [] ss) mid new b)

-- ---- IF

abbrev pub StandsOther : {D : Type 0} → Table → Machine D → Guard → OtherBranch → (old new : Walked) → Type 0
StandsOther t m g NoBranch old new = StillStands [] [] old new
StandsOther t m g (ABranch b) old new = StandsBranch t m g b old new

other_stands : {D : Type 0} (t : Table) (m : Machine D) (g : Guard) (h : meant.Guard Formula) (o : OtherBranch) (old new : Walked) → (has_other o ≡ true → StandsFor g old h) → StandsOther t m g o old new
    → StillStands (other_gives (formulas (context_of_machine t m)) (context_of_machine t m) h (signals_of m.registers.now) o) (other_branch_places (context_of_machine t m) m.registers.now o) old new
other_stands t m g h NoBranch old new e y = y
other_stands t m g h (ABranch b) old new e y = y h (e refl)

module _ {D : Type 0} (t : Table) (m : Machine D) (g : Guard) (gs : BothGuards) (p : Place) (c : Tree) (b : Branch) (o : OtherBranch) (old mid far : Walked)
    (a : WalksCondition t m.scope.now g.when p c (has_other o) old mid) (guards : AreBothGuards t m.scope.now g.when c (has_other o) old mid gs) (still : StillStands [] [] old mid)
    (inner : StandsBranch t m (record g { when = gs.then }) b mid far) where
  abbrev d : Context
  d = context_of_machine t m

  abbrev k : Formula
  k = condition_of d c

  abbrev then : Guard
  then = record g { when = gs.then }

  abbrev else : Guard
  else = record g { when = gs.otherwise }

  abbrev own : meant.Guard Formula → List Manner → Work
  own x ms = unit_work (condition_unit d p c (choice_nodes d x.holds c (has_other o)))

  abbrev one : meant.Guard Formula → Work
  one h = branch_work d (guarded (formulas d) h k) m.registers.now [] b

  abbrev other : meant.Guard Formula → Work
  other h =
      let j = guarded (formulas d) h ((formulas d).not k) in
      record { units = []; gives = other_gives (formulas d) d j (signals_of m.registers.now) o; places = other_branch_places d m.registers.now o }

  unit : (h : meant.Guard Formula) → StandsFor g old h → Walks old.before (own h old.before).units [] [] [] old mid
  unit h e = under_any g own [] old mid (λ x y ms. refl) a h e old.before (λ s q. refl)

  under_then : (h : meant.Guard Formula) → StandsFor g old h → StandsFor then mid (guarded (formulas d) h k)
  under_then h e = chosen_guard d g then h k old mid refl refl (walked_clear old mid (unit h e)) e guards.then

  behind : (h : meant.Guard Formula) (w : Work) (new : Walked) → StandsFor g old h → StandsWork w mid new → StandsWork w old new
  behind h w new e x = stands_then old.before [] (own h old.before).units [] w.gives [] w.places old mid new (unit h e) still x

  pub parts_end : StandsBranch t m g (AnIf p c b o) old far
  parts_end = λ h e.
      behind h (before (one h) (other h)) far e (stands_less (one h).gives (other h).gives (one h).places (other h).places mid far (inner (guarded (formulas d) h k) (under_then h e)))

  pub parts_stand : (new : Walked) → WalksBranch t m then b mid far → StandsOther t m else o far new → StandsBranch t m g (AnIf p c b o) old new
  parts_stand new walks outer = λ h e.
      let v = walks (guarded (formulas d) h k) (under_then h e) mid.before (λ s q. refl) in
      let j = guarded (formulas d) h ((formulas d).not k) in
      let stands = λ (both : has_other o ≡ true).
      kept_guard else j mid far v.keeps guards.else_inside (walked_clear mid far v) (chosen_guard d g else h ((formulas d).not k) old mid refl refl (walked_clear old mid (unit h e)) e (λ z. guards.otherwise z both)) in
      behind h (before (one h) (other h)) new e
      (stands_then mid.before (branch_manners d b) (branch_work d (guarded (formulas d) h k) m.registers.now mid.before b).units (one h).gives (other h).gives (one h).places (other h).places mid far new v
      (inner (guarded (formulas d) h k) (under_then h e)) (other_stands t m else j o far new stands outer))

-- an IF of the code, if the walk ends after its branch
pub if_ends : {D : Type 0} (t : Table) (m : Machine D) (g : Guard) (gs : BothGuards) (i : If) (both : Bool) (old mid far : Walked) → both ≡ is_some i.otherwise
    → WalksCondition t m.scope.now g.when i.place (view i.condition) both old mid → AreBothGuards t m.scope.now g.when (view i.condition) both old mid gs → StillStands [] [] old mid
    → StandsBranch t m (record g { when = gs.then }) (view_arm i.then) mid far → StandsBranch t m g (view_if i) old far
if_ends t m g gs i both old mid far e a guards still x =
    let c = view i.condition in
    let o = other_of (option_map view_arm i.otherwise) in
    let there = e ∙ other_there i.otherwise in
    subst (λ (b : Branch). StandsBranch t m g b old far) (sym (if_parts i))
    (parts_end t m g gs i.place c (view_arm i.then) o old mid far (subst (λ (b : Bool). WalksCondition t m.scope.now g.when i.place c b old mid) there a)
    (subst (λ (b : Bool). AreBothGuards t m.scope.now g.when c b old mid gs) there guards) still x)

pub if_stands : {D : Type 0} (t : Table) (m : Machine D) (g : Guard) (gs : BothGuards) (i : If) (both : Bool) (old mid far new : Walked) → both ≡ is_some i.otherwise
    → WalksCondition t m.scope.now g.when i.place (view i.condition) both old mid → AreBothGuards t m.scope.now g.when (view i.condition) both old mid gs → StillStands [] [] old mid
    → StandsBranch t m (record g { when = gs.then }) (view_arm i.then) mid far → WalksBranch t m (record g { when = gs.then }) (view_arm i.then) mid far
    → StandsOther t m (record g { when = gs.otherwise }) (other_of (option_map view_arm i.otherwise)) far new → StandsBranch t m g (view_if i) old new
if_stands t m g gs i both old mid far new e a guards still x walks y =
    let c = view i.condition in
    let o = other_of (option_map view_arm i.otherwise) in
    let there = e ∙ other_there i.otherwise in
    subst (λ (b : Branch). StandsBranch t m g b old new) (sym (if_parts i))
    (parts_stand t m g gs i.place c (view_arm i.then) o old mid far (subst (λ (b : Bool). WalksCondition t m.scope.now g.when i.place c b old mid) there a)
    (subst (λ (b : Bool). AreBothGuards t m.scope.now g.when c b old mid gs) there guards) still x new walks y)

-- ---- CASE

-- the arms after the conditions
pub case_stands : {D : Type 0} (t : Table) (m : Machine D) (g : Guard) (p : Place) (cs : Choices) (old mid new : Walked) → g.when.0 < length (arena old.exprs)
    → WalksConditions t m.scope.now g.when p cs old mid → StillStands [] [] old mid → StandsChoices t m g cs mid new → StandsBranch t m g (ACase p cs) old new
case_stands t m g p cs old mid new lt a still b =
    let d = context_of_machine t m in
    let own = λ (h : meant.Guard Formula) (all : List Manner). unit_work (case_unit d h.holds p cs) in
    stands_behind g (λ h. (own h []).units) (λ h. own h []) (λ h. choices_work d h m.registers.now [] cs) [] old mid new lt
    (λ h e. under_any g own [] old mid (λ h k all. refl) a h e old.before (λ s q. refl)) (λ h e. still) b

-- an arm before others, under its own guard
pub choices_end : {D : Type 0} (t : Table) (m : Machine D) (g k : Guard) (c : Choice) (cs : List Choice) (old new : Walked)
    → ((h : meant.Guard Formula) → StandsFor g old h → StandsFor k old (guarded (formulas (context_of_machine t m)) h (condition_of (context_of_machine t m) c.0)))
    → StandsBranch t m k c.1.1 old new → StandsChoices t m g (choices_of (c ∷ cs)) old new
choices_end t m g k c cs old new under a =
    let d = context_of_machine t m in
    let xs = m.registers.now in
    let inner = λ (h : meant.Guard Formula). guarded (formulas d) h (condition_of d c.0) in
    stands_front g (λ h. branch_work d (inner h) xs [] c.1.1) (λ h. choices_work d h xs [] (choices_of cs)) old new (λ h e. a (inner h) (under h e))

pub choices_stand : {D : Type 0} (t : Table) (m : Machine D) (g k : Guard) (c : Choice) (cs : List Choice) (old mid new : Walked) → g.when.0 < length (arena old.exprs)
    → ((h : meant.Guard Formula) → StandsFor g old h → StandsFor k old (guarded (formulas (context_of_machine t m)) h (condition_of (context_of_machine t m) c.0)))
    → WalksBranch t m k c.1.1 old mid → StandsBranch t m k c.1.1 old mid → StandsChoices t m g (choices_of cs) mid new → StandsChoices t m g (choices_of (c ∷ cs)) old new
choices_stand t m g k c cs old mid new lt under walks a b =
    let d = context_of_machine t m in
    let xs = m.registers.now in
    let inner = λ (h : meant.Guard Formula). guarded (formulas d) h (condition_of d c.0) in
    stands_behind g (λ h. (branch_work d (inner h) xs old.before c.1.1).units) (λ h. branch_work d (inner h) xs [] c.1.1) (λ h. choices_work d h xs [] (choices_of cs)) (branch_manners d c.1.1) old mid new lt
    (λ h e. walks (inner h) (under h e) old.before (λ s q. refl)) (λ h e. a (inner h) (under h e)) b

-- ---- lists

pub branches_end : {D : Type 0} (t : Table) (m : Machine D) (g : Guard) (b : Branch) (bs : List Branch) (old new : Walked) → StandsBranch t m g b old new → StandsBranches t m g (b ∷ bs) old new
branches_end t m g b bs old new a =
    let d = context_of_machine t m in
    let xs = m.registers.now in
    stands_front g (λ h. branch_work d h xs [] b) (λ h. branches_work d h xs [] bs) old new a

pub branches_stand : {D : Type 0} (t : Table) (m : Machine D) (g : Guard) (b : Branch) (bs : List Branch) (old mid new : Walked) → g.when.0 < length (arena old.exprs)
    → WalksBranch t m g b old mid → StandsBranch t m g b old mid → StandsBranches t m g bs mid new → StandsBranches t m g (b ∷ bs) old new
branches_stand t m g b bs old mid new lt walks a c =
    let d = context_of_machine t m in
    let xs = m.registers.now in
    stands_behind g (λ h. (branch_work d h xs old.before b).units) (λ h. branch_work d h xs [] b) (λ h. branches_work d h xs [] bs) (branch_manners d b) old mid new lt
    (λ h e. walks h e old.before (λ s q. refl)) a c

-- ---- states

abbrev pub StandsWithin : {D : Type 0} → Table → Machine D → Guard → StateTree → (old new : Walked) → Type 0
StandsWithin t m g s old new = StandsUnder g (λ h. within_work (context_of_machine t m) h m.registers.now [] s) old new

pub within_ends : {D : Type 0} (t : Table) (m : Machine D) (g : Guard) (s : StateTree) (old new : Walked) → StandsStatements t m.scope.now g (statements_of s.statements) old new → StandsWithin t m g s old new
within_ends t m g s old new a =
    let d = context_of_machine t m in
    let ss = statements_of s.statements in
    stands_front g (statements_work d [] ss) (λ h. branches_work d h m.registers.now [] s.transitions) old new (under_still g (statements_work d [] ss) old new a)

pub within_stands : {D : Type 0} (t : Table) (m : Machine D) (g : Guard) (s : StateTree) (old mid new : Walked) → g.when.0 < length (arena old.exprs)
    → WalksStatements t m.scope.now g (statements_of s.statements) old mid → StandsStatements t m.scope.now g (statements_of s.statements) old mid → StandsBranches t m g s.transitions mid new → StandsWithin t m g s old new
within_stands t m g s old mid new lt walks a b =
    let d = context_of_machine t m in
    let ss = statements_of s.statements in
    stands_behind g (λ h. (statements_work d old.before ss h).units) (statements_work d [] ss) (λ h. branches_work d h m.registers.now [] s.transitions) (statements_manners d ss) old mid new lt
    (λ h e. statements_under t m.scope.now g ss old mid walks h e old.before (λ s q. refl)) (under_still g (statements_work d [] ss) old mid a) b

-- a state under its own guard
pub state_stands : {D : Type 0} (t : Table) (m : Machine D) (g : Guard) (listed : List ℕ) (s : StateTree) (id : ExprId) (old mid new : Walked)
    → WalksUnit t m listed s old mid → (mid.fault ≡ None → IsBit (arena mid.exprs) id (state_bit (context_of_machine t m) m.registers.now s)) → StillStands [] [] old mid → StandsWithin t m (record g { when = id }) s mid new
    → StandsBlock g (λ h. state_work (context_of_machine t m) h m.registers.now [] [] s) old new
state_stands t m g listed s id old mid new unit bit still within = λ h p q.
    let d = context_of_machine t m in
    let xs = m.registers.now in
    let sig = signals_of xs in
    let inside : Guard = record g { when = id } in
    let f = (state_guard d sig s.value).what in
    let v = within (where_holds h f) (λ o. guard_is (arena mid.exprs) inside h f ((bit o).1 ∙ sym (guard_is_state d sig (term_of d.known s.value))) p q) in
    let held = subst (λ (x : Formula). StillStands (state_gives (formulas d) d sig s (where_holds h x)) (state_places d xs s) mid new) (guard_is_state d sig (term_of d.known s.value)) v in
    stands_then old.before [] (state_unit d sig listed s ∷ []) [] (state_gives (formulas d) d sig s (where_holds h (state_bit d xs s))) [] (state_places d xs s) old mid new (unit old.before (λ k z. refl)) still held

pub states_end : {D : Type 0} (t : Table) (m : Machine D) (g : Guard) (s : StateTree) (states : List StateTree) (old new : Walked) → StandsBlock g (λ h. state_work (context_of_machine t m) h m.registers.now [] [] s) old new
    → StandsStates t m g (s ∷ states) old new
states_end t m g s states old new a = λ h p q.
    let d = context_of_machine t m in
    let w = state_work d h m.registers.now [] [] s in
    let ws = states_work d h m.registers.now [] [] states in
    stands_less w.gives ws.gives w.places ws.places old new (a h p q)

pub states_stand : {D : Type 0} (t : Table) (m : Machine D) (g : Guard) (listed : List ℕ) (s : StateTree) (states : List StateTree) (old mid new : Walked)
    → WalksBlock g (λ h all. state_work (context_of_machine t m) h m.registers.now all listed s) (state_manners (context_of_machine t m) s) old mid
    → StandsBlock g (λ h. state_work (context_of_machine t m) h m.registers.now [] [] s) old mid → StandsStates t m g states mid new → StandsStates t m g (s ∷ states) old new
states_stand t m g listed s states old mid new walks a b = λ h p q.
    let d = context_of_machine t m in
    let w = state_work d h m.registers.now old.before listed s in
    let ws = states_work d h m.registers.now [] [] states in
    stands_then old.before (state_manners d s) w.units w.gives ws.gives w.places ws.places old mid new (walks h p q old.before (λ k z. refl)) (a h p q) (b h p q)

-- if the walk ends before the matches of other signals
pub others_end : {D : Type 0} (t : Table) (m : Machine D) (g : Guard) (states : List StateTree) (old new : Walked) → StandsStates t m g states old new → StandsOthers t m g states old new
others_end t m g states old new a = λ h p q.
    let d = context_of_machine t m in
    let sig = signals_of m.registers.now in
    let v = states_work d h m.registers.now [] [] states in
    let free = states_give (formulas d) d no_block sig states in
    stands_less v.gives (other_matches (formulas d) d h sig states (first_of_each [] (filter (is_other sig) v.gives))) v.places (other_places [] (length states) (map (other_signal sig) free) v.places) old new (a h p q)

-- ---- diagrams

-- a diagram of registers that aren't refused
pub diagram_stands : (d : Context) (all : List Manner) (fs : List Formula) (g : Guard) (x : Diagram) (xs : List Aim) (old new : Walked) → registers_refused d all (target_member d (view x.registers)) ≡ [] → xs ≡ (target_member d (view x.registers)).aims
    → StandsWork (before (header_work d (view_guard fs g) xs) (others_work d (view_guard fs g) xs [] (map view_state x.states))) old new → StillStands (given_by d g x fs) (places_by d x) old new
diagram_stands d all fs g x xs old new clear e b =
    let t = target_member d (view x.registers) in
    let h = view_guard fs g in
    let ss = map view_state x.states in
    let named = subst (λ ys. StandsWork (before (header_work d h ys) (others_work d h ys [] ss)) old new) e b in
    subst (λ ys. StillStands (registers_given (formulas d) d h ys ss) (aims_places d t.aims ss) old new) (sym (register_signals d (view x.registers) (registers_clear t.refusals _ clear))) named
