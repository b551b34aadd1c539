-- One turn more, which leaves less work, and the end.
use Rattle.std.proofs.Common.{◌≡◌, arith, List, [], ◌∷◌, ◌++◌, Result, Err, sym, ap, ◌∙◌, subst}
use Rattle.expr_bits.proofs.Common.{err_from_is_err_and, Vec, ExprFault, Node, arena, Entry, entries_of, Context, context_for, Makes, Bits, Work, IsPart, named_term, task_of, tasks_of, Task, Push, Do, left_by, made_by, term_part}
use Rattle.bit_expr.specs.declared.fault.ExprFault.TheVariants as fault
use Rattle.expr_bits.specs.declared.work.Work.TheVariants as work
use Rattle.expr_bits.proofs.Coming.{first_comes}
use Rattle.expr_bits.proofs.Turns.{none_left, put_kept, put_made, Walking, tasks_last, walking_start, walking_as, walking_turn, walking_stops, walking_done}
use Rattle.expr_bits.proofs.Weights.{weight_more, weight_taken}
use Rattle.expr_bits.proofs.walking.walk.Goals as goal

pub turns-init : goal.turns-init
turns-init g c =
    let x = task_of (entries_of c.args.on.now.scope.now) c.args.whole in
    rw (c.in_ok-push.ensures.items, c.new-work.ensures.items) (walking_start (context_for g.D.Device.table c.args.on.now.scope.now) c.args.exprs.now c.new-values.result x c.new-values.ensures.items)

pub build-requires : goal.build-requires
build-requires g c = record { values = record { parts = c.turns.invariant.part.what; are = c.turns.invariant.is.shows } }

-- the work that is done next, and what is left
taken_first : (d : Context) (es : List Entry) {old now : List Node} {vs : Vec Bits} {ws : List Work} (left : List Work) {w : Work} (v : Work) (x : Task) → ws ≡ left ++ w ∷ [] → w ≡ v → Walking d old now vs (tasks_of es ws) x → Walking d old now vs (task_of es v ∷ tasks_of es left) x
taken_first d es {old} {now} {vs} {ws} left {w} v x e f g =
    subst (λ ts. Walking d old now vs ts x) (ap (tasks_of es) e ∙ tasks_last es left w ∙ ap (λ u. task_of es u ∷ tasks_of es left) f) g

pub returns-in_err-bits-in-Do : goal.returns-in_err-bits-in-Do
returns-in_err-bits-in-Do g c t h =
    let es = entries_of c.args.on.now.scope.now in
    let d = context_for g.D.Device.table c.args.on.now.scope.now in
    let old = c.args.exprs.now in
    let now = c.turns.exprs in
    let left = c.pop.new.self.items in
    let step = c.in-Do.step in
    let here : Walking d old now c.turns.values (Do step ∷ tasks_of es left) (Push t) =
    subst (λ x. Walking d old now c.turns.values (Do step ∷ tasks_of es left) x) h
    (taken_first d es left (work.Do step) _ c.in-Some.ensures.items c.in-Do.is c.turns.invariant) in
    let p = err_from_is_err_and c.from_residual-in_err-bits-in-Do.result c.from_residual-in_err-bits-in-Do.ensures.1 in
    subst (λ (r : Result Bits ExprFault). Makes IsPart old c.build.new.exprs r (term_part d t)) (sym p.1)
    (walking_stops d old now c.build.new.exprs c.turns.values p.0 step (tasks_of es left) t here (rw p.2 (c.in_err-bits-in-Do.ensures.made here.part.what here.is.shows)))

pub returns-in_err-push-in-Do : goal.returns-in_err-push-in-Do
returns-in_err-push-in-Do g c t h =
    let d = context_for g.D.Device.table c.args.on.now.scope.now in
    let made = c.in_ok-bits-in-Do.ensures.made c.turns.invariant.part.what c.turns.invariant.is.shows in
    let p = err_from_is_err_and c.from_residual-in_err-push-in-Do.result c.from_residual-in_err-push-in-Do.ensures.1 in
    let e : c.from_residual-in_err-push-in-Do.result ≡ Err fault.OutOfMemory = p.1 ∙ ap Err p.2 in
    subst (λ (r : Result Bits ExprFault). Makes IsPart c.args.exprs.now c.build.new.exprs r (term_part d t)) (sym e)
    (λ i f k. made.grew.keeps i f (c.turns.invariant.is.grew.keeps i f k))

pub returns : goal.returns
returns g c t h =
    let es = entries_of c.args.on.now.scope.now in
    let d = context_for g.D.Device.table c.args.on.now.scope.now in
    let old = c.args.exprs.now in
    let tasks = tasks_of es c.turns.work.items in
    let here : Walking d old c.turns.exprs c.turns.values tasks (Push t) = subst (λ x. Walking d old c.turns.exprs c.turns.values tasks x) h c.turns.invariant in
    let p = c.in_default.ensures in
    walking_done d old c.turns.exprs c.turns.values c.taken.result tasks t
    (ap (tasks_of es) (none_left c.turns.work.items c.pop.new.self.items _ p.items p.rest p.cases.0)) here (c.taken.ensures.top (arena c.turns.exprs) here.part.what here.is.shows)

-- ---- a turn, and how much less it leaves

pub turns-preserved-in-Whole : goal.turns-preserved-in-Whole
turns-preserved-in-Whole g c =
    let es = entries_of c.args.on.now.scope.now in
    let d = context_for g.D.Device.table c.args.on.now.scope.now in
    let left = c.pop.new.self.items in
    let next = work.Whole c.in-Whole.expr c.in-Whole.outer in
    walking_as d _ _ _ (task_of es next ∷ tasks_of es left) (tasks_of es c.in_ok-work-in-Whole.work.items) _
    (c.in_ok-work-in-Whole.ensures.comes d) (taken_first d es left next _ c.in-Some.ensures.items c.in-Whole.is c.turns.invariant)

pub turns-smaller-in-Whole : goal.turns-smaller-in-Whole
turns-smaller-in-Whole g c =
    let es = entries_of c.args.on.now.scope.now in
    omega (arith, weight_taken es c.pop.new.self.items (work.Whole c.in-Whole.expr c.in-Whole.outer) c.in-Some.ensures.items c.in-Whole.is, c.in_ok-work-in-Whole.ensures.weight)

pub turns-preserved-in-Members : goal.turns-preserved-in-Members
turns-preserved-in-Members g c =
    let es = entries_of c.args.on.now.scope.now in
    let d = context_for g.D.Device.table c.args.on.now.scope.now in
    let left = c.pop.new.self.items in
    let next = work.Members c.in-Members.members c.in-Members.outer in
    walking_as d _ _ _ (task_of es next ∷ tasks_of es left) (tasks_of es c.in_ok-work-in-Members.work.items) _
    (c.in_ok-work-in-Members.ensures.comes d) (taken_first d es left next _ c.in-Some.ensures.items c.in-Members.is c.turns.invariant)

pub turns-smaller-in-Members : goal.turns-smaller-in-Members
turns-smaller-in-Members g c =
    let es = entries_of c.args.on.now.scope.now in
    omega (arith, weight_taken es c.pop.new.self.items (work.Members c.in-Members.members c.in-Members.outer) c.in-Some.ensures.items c.in-Members.is, c.in_ok-work-in-Members.ensures.weight)

pub turns-preserved-in_ok-push-in-Some-bits_at : goal.turns-preserved-in_ok-push-in-Some-bits_at
turns-preserved-in_ok-push-in-Some-bits_at g c =
    let es = entries_of c.args.on.now.scope.now in
    let d = context_for g.D.Device.table c.args.on.now.scope.now in
    let left = c.pop.new.self.items in
    let t = named_term es c.in-Named.number c.in-Named.extension in
    let here : Walking d c.args.exprs.now c.turns.exprs c.turns.values (Push t ∷ tasks_of es left) (task_of es c.args.whole) =
    taken_first d es left (work.Named c.in-Named.number c.in-Named.extension) _ c.in-Some.ensures.items c.in-Named.is c.turns.invariant in
    walking_turn d _ _ _ _ _ (Push t) (tasks_of es left) _ here
    (put_kept d c.turns.exprs c.in-Some-bits_at.bits.now c.in_ok-copied-in-Some-bits_at.field-0 c.turns.values.items c.push-in-Some-bits_at.new.self t here.part.what c.in_ok-push-in-Some-bits_at.ensures.items
    (c.in-Some-bits_at.ensures es d c.requires.rows) c.in_ok-copied-in-Some-bits_at.ensures here.is.shows)

pub turns-smaller-in_ok-push-in-Some-bits_at : goal.turns-smaller-in_ok-push-in-Some-bits_at
turns-smaller-in_ok-push-in-Some-bits_at g c =
    let es = entries_of c.args.on.now.scope.now in
    omega (arith, weight_taken es c.pop.new.self.items (work.Named c.in-Named.number c.in-Named.extension) c.in-Some.ensures.items c.in-Named.is)

pub turns-preserved-in_ok-push-in-None : goal.turns-preserved-in_ok-push-in-None
turns-preserved-in_ok-push-in-None g c =
    let es = entries_of c.args.on.now.scope.now in
    let d = context_for g.D.Device.table c.args.on.now.scope.now in
    let left = c.pop.new.self.items in
    let t = named_term es c.in-Named.number c.in-Named.extension in
    walking_as d _ _ _ (Push t ∷ tasks_of es left) (tasks_of es c.push-in-None.new.self.items) _
    (first_comes es left c.push-in-None.new.self.items c.declared_work.result t c.in_ok-push-in-None.ensures.items c.declared_work.ensures.comes d)
    (taken_first d es left (work.Named c.in-Named.number c.in-Named.extension) _ c.in-Some.ensures.items c.in-Named.is c.turns.invariant)

pub turns-smaller-in_ok-push-in-None : goal.turns-smaller-in_ok-push-in-None
turns-smaller-in_ok-push-in-None g c =
    let es = entries_of c.args.on.now.scope.now in
    omega (
      arith,
      weight_taken es c.pop.new.self.items (work.Named c.in-Named.number c.in-Named.extension) c.in-Some.ensures.items c.in-Named.is,
      c.declared_work.ensures.weight,
      weight_more es c.push-in-None.new.self.items c.pop.new.self.items c.declared_work.result c.in_ok-push-in-None.ensures.items,
    )

pub turns-preserved : goal.turns-preserved
turns-preserved g c =
    let es = entries_of c.args.on.now.scope.now in
    let d = context_for g.D.Device.table c.args.on.now.scope.now in
    let left = c.pop.new.self.items in
    let step = c.in-Do.step in
    let here : Walking d c.args.exprs.now c.turns.exprs c.turns.values (Do step ∷ tasks_of es left) (task_of es c.args.whole) =
    taken_first d es left (work.Do step) _ c.in-Some.ensures.items c.in-Do.is c.turns.invariant in
    walking_turn d _ _ _ _ _ (Do step) (tasks_of es left) _ here
    (put_made c.turns.exprs c.build.new.exprs c.in_ok-bits-in-Do.bits c.build.new.values.items c.push-in-Do.new.self (made_by d step here.part.what) (left_by step here.part.what) c.in_ok-push-in-Do.ensures.items
    (c.in_ok-bits-in-Do.ensures.made here.part.what here.is.shows) (c.in_ok-bits-in-Do.ensures.left c.turns.exprs here.part.what here.is.shows))

pub turns-smaller : goal.turns-smaller
turns-smaller g c =
    let es = entries_of c.args.on.now.scope.now in
    omega (arith, weight_taken es c.pop.new.self.items (work.Do c.in-Do.step) c.in-Some.ensures.items c.in-Do.is)
