-- What is refused of registers and of the values of states, and walks over states.
use Rattle.std.proofs.Common.{◌≡◌, ℕ, true, false, Option, None, Some, List, [], ◌∷◌, ◌++◌, refl, ap, ◌≤◌, length, map, sym, ◌∙◌, subst, append-nil, ◌<◌, subst₂}
use Rattle.state_diagrams.proofs.Common.{Tree, StateTree, none_refused, Context, known_of, SectionFault, section_order, Manner, manners_behind, register_manners, if_none, listed_after, listed_with, state_number, state_refused, listed_if, Aim, AreNamed, aims_refused, manner_of, TargetFound, target_member, unless_any, AreRegisters, is_some, not_clear, Table, ExprId, arena, formula_at, Formula, statements_of, state_gives, formulas, term_of, Guard, view_guard, Walked, IsBit, walks_then, statements_manners, WalksStatements, Machine, state_places, branches_manners, signals_of, state_guard, state_manners, states_manners, units_within, WalksBlock, WalksBranches, WalksStates, WalksUnit, WalksWithin, WalksWork, context_of_machine, state_unit, branches_work, state_bit, state_work, states_work, where_holds, within_work, Work}
use Rattle.state_diagrams.proofs.GuardLaws.{first}
use Rattle.section_targets.specs.declared.sides.Side.{Side}
use Rattle.section_targets.specs.NamedTargets.{IsSide}
use Rattle.section_targets.proofs.SignalLists.{side_all}
use Rattle.section_targets.proofs.SmallTargets.{member_few}
use Rattle.abel_meaning.specs.Contributions as meant
use Rattle.state_diagrams.proofs.AnyGuards.{statements_under, statements_work, still_firsts, under_then, unit_then}
use Rattle.state_diagrams.proofs.StateBits.{guard_is_state}
use Rattle.state_diagrams.proofs.GoalWorks.{sized}

-- ---- values

-- a state that isn't refused is listed
pub listed_as : (d : Context) (n : ℕ) (listed : List ℕ) (s : StateTree) (m : ℕ) (f : Option SectionFault) → f ≡ first (state_refused d n listed s) → (f ≡ None → m ≡ state_number d s.value) → listed_if f listed m ≡ listed_after d n listed s
listed_as d n listed s m f e h = by f (state_refused d n listed s) e h
  where
    by : (f : Option SectionFault) (rs : List SectionFault) → f ≡ first rs → (f ≡ None → m ≡ state_number d s.value) → listed_if f listed m ≡ listed_with rs listed (state_number d s.value)
    by None [] e h = ap (λ k. listed ++ k ∷ []) (h refl)
    by (Some x) [] e h = absurd cc
    by (Some x) (r ∷ rs) e h = refl
    by None (r ∷ rs) e h = absurd (never (none_refused section_order (r ∷ rs) e))
      where
        never : r ∷ rs ≡ [] → ⊥
        never e = cc

-- ---- after the registers

pub manners_accepted : (rs : List SectionFault) (ms ns : List Manner) → rs ≡ [] → ms ++ ns ≡ ms ++ manners_behind rs ns
manners_accepted [] ms ns e = refl
manners_accepted (r ∷ rs) ms ns e = absurd cc

-- no targets
pub no_registers : (d : Context) (all : List Manner) (t : Tree) (s : Side) (f : SectionFault) → IsSide (length d.names) s (target_member d t) → s.fault ≡ Some f → AreRegisters d all t s
no_registers d all t s f h e =
    record {
      fault = e ∙ by (target_member d t).refusals (sym e ∙ h.fault);
      aims = λ n. not_clear s.fault (ap is_some e) n;
      few = λ n. not_clear s.fault (ap is_some e) n;
      inside = h.inside;
    }
  where
    by : (rs : List SectionFault) → Some f ≡ first rs → Some f ≡ first (if_none rs (aims_refused d all None false true (target_member d t).aims))
    by [] g = absurd cc
    by (r ∷ rs) g = g

pub no_manners : (x : TargetFound) (all : List Manner) (o : Option SectionFault) (f : SectionFault) → o ≡ first x.refusals → o ≡ Some f → all ≡ all ++ register_manners x
no_manners x all o f h e = by x.refusals (sym e ∙ h)
  where
    by : (rs : List SectionFault) → Some f ≡ first rs → all ≡ all ++ map (manner_of None false true) (unless_any rs x.aims)
    by [] g = absurd cc
    by (r ∷ rs) g = sym (append-nil all)

-- if no fault is found, the registers are all there
pub member_whole : (d : Context) (s : Side) (t : Tree) → d.known ≡ known_of d.names → IsSide (length d.names) s (target_member d t) → s.fault ≡ None → ((target_member d t).refusals ≡ []) × (s.aims ≡ (target_member d t).aims) × (length s.aims ≤ 32)
member_whole d s t k h e =
    let r = none_refused section_order (target_member d t).refusals (sym e ∙ h.fault) in
    let few = member_few d t k r in
    let a = side_all (length d.names) s (target_member d t) h few in
    (r, a, subst (λ xs. length xs ≤ 32) (sym a) few)

-- targets that are assigned on the clock
pub some_registers : (d : Context) (all : List Manner) (t : Tree) (s r : Side) → d.known ≡ known_of d.names → IsSide (length d.names) s (target_member d t) → s.fault ≡ None → r.aims ≡ s.aims → r.fault ≡ first (aims_refused d all None false true s.aims) → AreRegisters d all t r
some_registers d all t s r k h e a f =
    let w = member_whole d s t k h e in
    record {
      fault = f ∙ ap (λ xs. first (aims_refused d all None false true xs)) w.1 ∙ ap (λ rs. first (if_none rs (aims_refused d all None false true (target_member d t).aims))) (sym w.0);
      aims = λ n. a ∙ w.1;
      few = λ n. subst (λ xs. length xs ≤ 32) (sym a) w.2;
      inside = subst (AreNamed (length d.names)) (sym a) h.inside;
    }

pub some_manners : (x : TargetFound) (aims : List Aim) → x.refusals ≡ [] → aims ≡ x.aims → map (manner_of None false true) aims ≡ register_manners x
some_manners x aims h a = ap (map (manner_of None false true)) (a ∙ ap (λ rs. unless_any rs x.aims) (sym h))

-- ---- walks, part by part

-- the statements of a state, and its transitions
pub within_walk : {D : Type 0} (t : Table) (m : Machine D) (g : Guard) (s : StateTree) (old mid new : Walked) → g.when.0 < length (arena old.exprs)
    → WalksStatements t m.scope.now g (statements_of s.statements) old mid → WalksBranches t m g s.transitions mid new → WalksWithin t m g s old new
within_walk t m g s old mid new lt a b =
    let d = context_of_machine t m in
    let ss = statements_of s.statements in
    under_then g (λ h all. statements_work d all ss h) (λ h all. branches_work d h m.registers.now all s.transitions) (statements_manners d ss) (branches_manners d s.transitions) old mid new lt
    (statements_under t m.scope.now g ss old mid a) b

-- what is in a state, under its own guard
pub within_plain : {D : Type 0} (t : Table) (m : Machine D) (g : Guard) (s : StateTree) (old new : Walked) → WalksWithin t m g s old new
    → WalksWork old.before (within_work (context_of_machine t m) (view_guard (arena old.exprs) g) m.registers.now old.before s) (state_manners (context_of_machine t m) s) old new
within_plain t m g s old new w = w (view_guard (arena old.exprs) g) (λ o. refl) old.before (λ k p. refl)

-- what is in a state of so many registers, with what it gives if this holds
abbrev inside_work : Context → meant.Guard Formula → List Aim → List Manner → StateTree → (n : ℕ) → (holds : Formula) → Work
inside_work d h xs all s n f =
    record {
      units = units_within d (state_guard d (signals_of xs) s.value).what n all s;
      gives = state_gives (formulas d) d (signals_of xs) s (where_holds h f);
      places = state_places d xs s;
    }

pub guard_is : (fs : List Formula) (g : Guard) (h : meant.Guard Formula) (f : Formula) → formula_at fs g.when ≡ f → h.dontcare ≡ g.dontcare → h.block ≡ g.block → view_guard fs g ≡ where_holds h f
guard_is fs g h f e p q = rw (e, p, q) refl

-- a state under its own guard
pub state_walk : {D : Type 0} (t : Table) (m : Machine D) (g : Guard) (listed : List ℕ) (s : StateTree) (id : ExprId) (old mid far : Walked)
    → WalksUnit t m listed s old mid → (mid.fault ≡ None → IsBit (arena mid.exprs) id (state_bit (context_of_machine t m) m.registers.now s)) → WalksWithin t m (record g { when = id }) s mid far
    → WalksBlock g (λ h all. state_work (context_of_machine t m) h m.registers.now all listed s) (state_manners (context_of_machine t m) s) old far
state_walk t m g listed s id old mid far unit bit within = λ h p q all a.
    let d = context_of_machine t m in
    let xs = m.registers.now in
    let sig = signals_of xs in
    let f = (state_guard d sig s.value).what in
    let inside : Guard = record g { when = id } in
    let u = unit all a in
    let v = within (where_holds h f) (λ o. guard_is (arena mid.exprs) inside h f ((bit o).1 ∙ sym (guard_is_state d sig (term_of d.known s.value))) p q) all (still_firsts all mid u.manners) in
    let held = subst₂ (λ (n : ℕ) (x : Formula). WalksWork all (inside_work d h xs all s n x) (state_manners d s) mid far) (sized xs) (guard_is_state d sig (term_of d.known s.value)) v in
    unit_then all (state_manners d s) (record { units = state_unit d sig listed s ∷ []; gives = []; places = [] }) (inside_work d h xs all s (length sig) (state_bit d xs s)) old mid far u held

-- a state before others
pub states_walk : {D : Type 0} (t : Table) (m : Machine D) (g : Guard) (listed : List ℕ) (s : StateTree) (states : List StateTree) (id : ExprId) (old mid far new : Walked)
    → WalksUnit t m listed s old mid → (mid.fault ≡ None → IsBit (arena mid.exprs) id (state_bit (context_of_machine t m) m.registers.now s)) → WalksWithin t m (record g { when = id }) s mid far
    → WalksStates t m g (listed_after (context_of_machine t m) (length (signals_of m.registers.now)) listed s) states far new → WalksStates t m g listed (s ∷ states) old new
states_walk t m g listed s states id old mid far new unit bit within later = λ h p q all a.
    let d = context_of_machine t m in
    let xs = m.registers.now in
    let one = state_walk t m g listed s id old mid far unit bit within h p q all a in
    let after = listed_after d (length (signals_of xs)) listed s in
    let w = state_work d h xs all listed s in
    let ws = states_work d h xs (all ++ state_manners d s) after states in
    walks_then all (state_manners d s) (states_manners d states) w.units ws.units w.gives ws.gives w.places ws.places old far new one (later h p q (all ++ state_manners d s) one.manners)
