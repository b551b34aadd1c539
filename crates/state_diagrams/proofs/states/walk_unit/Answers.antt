-- A state that is refused or follows what is, and one whose bit is made.
use Rattle.std.proofs.Common.{◌≡◌, ℕ, false, List, [], ◌∷◌, Result, Ok, Err, length, refl, sym, ap, ◌∙◌, subst, subst₂}
use Rattle.state_diagrams.proofs.Common.{is_some, arena, Node, earlier, StateTree, view_state, Context, term_of, SectionFault, section_order, Manner, Walked, BuildsNodes, IsBit, AreFirsts, context_for, part, AfterMaking, Builds, standing, none_so_far, stands_made, stands_same, Walks, high_bit, limit_kept, unit_clear, unit_refused, signals_of, state_guard, state_unit, number_guard, IsState, state_refused, Made, Formula}
use Rattle.state_diagrams.specs.declared.values.StateFound.{StateFound}
use Rattle.state_diagrams.proofs.StateBits.{guard_is_state}
use Rattle.state_diagrams.proofs.AnyGuards.{nodes_made}
use Rattle.state_diagrams.proofs.states.walk_unit.Goals as goal

pub returns-then-refuse-clause-walks : goal.returns-then-refuse-clause-walks
returns-then-refuse-clause-walks g c = λ listed value all a.
    let m = c.args.machine.now in
    unit_refused all (state_unit (context_for g.D.Device.table m.scope.now) (signals_of m.registers.now) listed (view_state c.args.state.now)) [] [] c.args.found.fault c.args.out.now c.refuse.new.self
    value.fault c.refuse.ensures.first (sym c.refuse.ensures.refused ∙ c.if-refuse.true) a

-- the number of a state that isn't refused
its_number : (d : Context) (ss : List ℕ) (s : StateTree) (listed : List ℕ) (f : StateFound) (old now : Walked) → IsState d (length ss) listed s f → now ≡ record old { fault = earlier section_order old.fault f.fault } → is_some now.fault ≡ false
    → number_guard d ss f.number ≡ state_guard d ss s.value
its_number d ss s listed f old now value kept off =
    ap (number_guard d ss) (value.number (unit_clear (state_refused d (length ss) listed s) f.fault old now value.fault kept off).1.0)

-- its unit, if nothing is refused
unit_walk : (d : Context) (ss : List ℕ) (s : StateTree) (listed : List ℕ) (f : StateFound) (old now new : Walked) (ns : List Node) (r : Result Unit SectionFault) → IsState d (length ss) listed s f → now ≡ record old { fault = earlier section_order old.fault f.fault } → is_some now.fault ≡ false
    → BuildsNodes (part s.place (number_guard d ss f.number).nodes ∷ []) now.exprs ns r → AfterMaking r (record now { exprs = ns }) new
    → (all : List Manner) → AreFirsts old.before all → Walks all (state_unit d ss listed s ∷ []) [] [] [] old new
unit_walk d ss s listed f old now new ns r value kept off b k =
    nodes_made s.place (state_refused d (length ss) listed s) (state_guard d ss s.value).nodes f.fault old now new ns r value.fault kept off
    (subst₂ (λ (w : Walked) (m : Made Formula). BuildsNodes (part s.place m.nodes ∷ []) w.exprs ns r) kept (its_number d ss s listed f old now value kept off) b) k

pub returns-in-Ok-clause-walks : goal.returns-in-Ok-clause-walks
returns-in-Ok-clause-walks g c = λ listed value.
    let m = c.args.machine.now in
    let now = c.refuse.new.self in
    let made : Walked = record now { exprs = c.state_guard.new.exprs } in
    unit_walk (context_for g.D.Device.table m.scope.now) (signals_of m.registers.now) (view_state c.args.state.now) listed c.args.found c.args.out.now now made c.state_guard.new.exprs (Ok tt)
    value c.refuse.ensures.first (sym c.refuse.ensures.refused ∙ c.if-refuse.false) c.in-Ok.ensures.0 refl

pub returns-in-Ok-clause-bit : goal.returns-in-Ok-clause-bit
returns-in-Ok-clause-bit g c = λ listed value e.
    let m = c.args.machine.now in
    let d = context_for g.D.Device.table m.scope.now in
    let ss = signals_of m.registers.now in
    let s = view_state c.args.state.now in
    let same = its_number d ss s listed c.args.found c.args.out.now c.refuse.new.self value c.refuse.ensures.first (sym c.refuse.ensures.refused ∙ c.if-refuse.false) in
    subst (IsBit (arena c.state_guard.new.exprs) c.in-Ok.bit) (ap (λ w. w.what) same ∙ guard_is_state d ss (term_of d.known s.value)) c.in-Ok.ensures.1

pub returns-in_ok-keep_limit-in-Err-clause-walks : goal.returns-in_ok-keep_limit-in-Err-clause-walks
returns-in_ok-keep_limit-in-Err-clause-walks g c = λ listed value.
    let m = c.args.machine.now in
    unit_walk (context_for g.D.Device.table m.scope.now) (signals_of m.registers.now) (view_state c.args.state.now) listed c.args.found c.args.out.now c.refuse.new.self c.keep_limit.new.self c.state_guard.new.exprs (Err c.in-Err.fault)
    value c.refuse.ensures.first (sym c.refuse.ensures.refused ∙ c.if-refuse.false) c.in-Err.ensures.0 c.in_ok-keep_limit-in-Err.ensures.kept

pub returns-in_ok-keep_limit-in-Err-clause-bit : goal.returns-in_ok-keep_limit-in-Err-clause-bit
returns-in_ok-keep_limit-in-Err-clause-bit g c = λ listed value e. absurd (limit_kept c.in-Err.fault (record c.refuse.new.self { exprs = c.state_guard.new.exprs }) c.keep_limit.new.self c.in_ok-keep_limit-in-Err.ensures.kept e)

-- any arena has the constants
pub returns-then-refuse-clause-inside : goal.returns-then-refuse-clause-inside
returns-then-refuse-clause-inside g c = (high_bit c.refuse.new.self.exprs (record { 0 = 1 }) refl).0

pub returns-in_ok-keep_limit-in-Err-clause-inside : goal.returns-in_ok-keep_limit-in-Err-clause-inside
returns-in_ok-keep_limit-in-Err-clause-inside g c = (high_bit c.keep_limit.new.self.exprs (record { 0 = 1 }) refl).0

pub returns-then-refuse-clause-stands : goal.returns-then-refuse-clause-stands
returns-then-refuse-clause-stands g c = stands_same [] [] c.args.out.now c.refuse.new.self (ap standing c.refuse.ensures.first)

pub returns-in-Ok-clause-stands : goal.returns-in-Ok-clause-stands
returns-in-Ok-clause-stands g c =
    let m = c.args.machine.now in
    let old = c.args.out.now in
    let now = c.refuse.new.self in
    let made : Walked = record now { exprs = c.state_guard.new.exprs } in
    stands_made {R = Unit} _ [] [] old made made (Ok tt) (none_so_far old.fault c.args.found.fault now (ap (λ (w : Walked). w.fault) c.refuse.ensures.first) (sym c.refuse.ensures.refused ∙ c.if-refuse.false))
    (subst (λ (w : Walked). Builds {R = Unit} (part c.args.state.now.place (number_guard (context_for g.D.Device.table m.scope.now) (signals_of m.registers.now) c.args.found.number).nodes ∷ []) [] [] (standing w) (standing made) (Ok tt)) c.refuse.ensures.first (c.in-Ok.ensures.0 now.list.items)) refl

pub returns-in_err-keep_limit-in-Err-clause-stands : goal.returns-in_err-keep_limit-in-Err-clause-stands
returns-in_err-keep_limit-in-Err-clause-stands g c =
    let m = c.args.machine.now in
    let old = c.args.out.now in
    let now = c.refuse.new.self in
    let made : Walked = record now { exprs = c.state_guard.new.exprs } in
    stands_made {R = Unit} _ [] [] old made c.keep_limit.new.self (Err c.in-Err.fault) (none_so_far old.fault c.args.found.fault now (ap (λ (w : Walked). w.fault) c.refuse.ensures.first) (sym c.refuse.ensures.refused ∙ c.if-refuse.false))
    (subst (λ (w : Walked). Builds {R = Unit} (part c.args.state.now.place (number_guard (context_for g.D.Device.table m.scope.now) (signals_of m.registers.now) c.args.found.number).nodes ∷ []) [] [] (standing w) (standing made) (Err c.in-Err.fault)) c.refuse.ensures.first (c.in-Err.ensures.0 now.list.items)) c.keep_limit.ensures.stands

pub returns-in_ok-keep_limit-in-Err-clause-stands : goal.returns-in_ok-keep_limit-in-Err-clause-stands
returns-in_ok-keep_limit-in-Err-clause-stands g c =
    let m = c.args.machine.now in
    let old = c.args.out.now in
    let now = c.refuse.new.self in
    let made : Walked = record now { exprs = c.state_guard.new.exprs } in
    stands_made {R = Unit} _ [] [] old made c.keep_limit.new.self (Err c.in-Err.fault) (none_so_far old.fault c.args.found.fault now (ap (λ (w : Walked). w.fault) c.refuse.ensures.first) (sym c.refuse.ensures.refused ∙ c.if-refuse.false))
    (subst (λ (w : Walked). Builds {R = Unit} (part c.args.state.now.place (number_guard (context_for g.D.Device.table m.scope.now) (signals_of m.registers.now) c.args.found.number).nodes ∷ []) [] [] (standing w) (standing made) (Err c.in-Err.fault)) c.refuse.ensures.first (c.in-Err.ensures.0 now.list.items)) c.keep_limit.ensures.stands
