-- The value, one register more, and all registers.
use Rattle.std.proofs.Common.{◌<◌, Ok, Err, length, get_or, refl, sym, ap, ◌∙◌, subst, arith}
use Rattle.state_diagrams.proofs.Common.{err_from_is_err_and, ExprId, arena, Names, entries_of, context_for, view_guard, Aim, standing, kept_formula, kept_inside, bits_length, at, guard_kept}
use Rattle.state_diagrams.proofs.GoalWorks.{goal_built, goal_word, register_step, registers_done, value_made, value_stops}
use Rattle.state_diagrams.proofs.StateBits.{bits_kept}
use Rattle.state_diagrams.proofs.goals.give_goal.Goals as goal

abbrev no_aim : Aim
no_aim = record { signal = 0; place = record { line = 0; column = 0 } }

pub returns-in_err-bits-clause-gives : goal.returns-in_err-bits-clause-gives
returns-in_err-bits-clause-gives g c =
    let p = err_from_is_err_and c.from_residual.result c.from_residual.ensures.1 in
    let m = c.args.machine.now in
    let old = c.args.out.now in
    rw (p.1, p.2)
    (value_stops (context_for g.D.Device.table m.scope.now) (view_guard (arena old.exprs) c.args.guard) m.registers.now c.args.goal.now (standing old) (at c.value_bits.new.exprs old.list.items) c.in_err-bits.field-0.0
    (c.in_err-bits.ensures.builds old.list.items))

pub loop-index-init : goal.loop-index-init
loop-index-init g c =
    let m = c.args.machine.now in
    let old = c.args.out.now in
    let b = c.in_ok-bits.ensures in
    record {
      before = refl;
      fault = refl;
      guard = kept_inside _ _ c.args.guard.when b.keeps c.requires.guard;
      same = guard_kept (arena old.exprs) (arena c.value_bits.new.exprs) c.args.guard (kept_formula _ _ c.args.guard.when b.keeps c.requires.guard);
      bits = b.bits;
      left = value_made (context_for g.D.Device.table m.scope.now) (view_guard (arena old.exprs) c.args.guard) m.registers.now c.args.goal.now (standing old) (at c.value_bits.new.exprs old.list.items) (b.builds old.list.items);
    }

pub give_register-requires : goal.give_register-requires
give_register-requires g c =
    let i = c.loop-index.index in
    let v = c.loop-index.invariant in
    record {
      signal = subst (λ (n : Names). (get_or c.args.machine.now.registers.now i no_aim).signal < length (entries_of n)) (sym c.scope-names.ensures) (c.requires.signals i no_aim c.loop-index-test.true);
      guard = v.guard;
      bit = subst (λ (id : ExprId). id.0 < length (arena c.loop-index.out.exprs)) (sym c.index.ensures) (v.bits.0 i c.index.result.now (omega (arith, c.loop-index-test.true, c.in_ok-bits.ensures.width)));
    }

pub loop-index-preserved : goal.loop-index-preserved
loop-index-preserved g c =
    let m = c.args.machine.now in
    let d = context_for g.D.Device.table m.scope.now in
    let xs = m.registers.now in
    let mid = c.loop-index.out in
    let new = c.give_register.new.out in
    let v = c.loop-index.invariant in
    let a = c.in_ok-give_register.ensures in
    record {
      before = a.before ∙ v.before;
      fault = a.fault ∙ v.fault;
      guard = kept_inside _ _ c.args.guard.when a.keeps v.guard;
      same = guard_kept (arena mid.exprs) (arena new.exprs) c.args.guard (kept_formula _ _ c.args.guard.when a.keeps v.guard) ∙ v.same;
      bits = bits_kept (arena mid.exprs) (arena new.exprs) c.in_ok-bits.bits.items (goal_word d xs c.args.goal.now) a.keeps v.bits;
      left = register_step d c.args.guard (view_guard (arena c.args.out.now.exprs) c.args.guard) xs no_aim c.args.goal.now c.in_ok-bits.bits.items c.index.result.now c.loop-index.index (standing c.args.out.now) mid new (Ok tt)
          c.loop-index-test.true c.in_ok-bits.ensures.width v.bits c.index.ensures v.same v.left (a.gives d (ap entries_of (sym c.scope-names.ensures)));
    }

pub returns-in_err-give_register : goal.returns-in_err-give_register
returns-in_err-give_register g c =
    let q = err_from_is_err_and c.from_residual-in_err-give_register.result c.from_residual-in_err-give_register.ensures.1 in
    let m = c.args.machine.now in
    let d = context_for g.D.Device.table m.scope.now in
    let h = view_guard (arena c.args.out.now.exprs) c.args.guard in
    let xs = m.registers.now in
    let x = c.args.goal.now in
    let ids = c.in_ok-bits.bits.items in
    let old = standing c.args.out.now in
    let mid = c.loop-index.out in
    let new = c.give_register.new.out in
    let v = c.loop-index.invariant in
    let a = c.in_err-give_register.ensures in
    let f = c.in_err-give_register.field-0.0 in
    let width = c.in_ok-bits.ensures.width in
    let stops = register_step d c.args.guard h xs no_aim x ids c.index.result.now c.loop-index.index old mid new (Err f) c.loop-index-test.true width v.bits c.index.ensures v.same v.left (a.gives d (ap entries_of (sym c.scope-names.ensures))) in
    record {
      before = a.before ∙ v.before;
      fault = a.fault ∙ v.fault;
      gives = rw (q.1, q.2) (goal_built d h xs x old (standing new) (Err f) (sym width ∙ bits_length (arena mid.exprs) ids (goal_word d xs x) v.bits) stops);
    }

pub returns : goal.returns
returns g c =
    let m = c.args.machine.now in
    let d = context_for g.D.Device.table m.scope.now in
    let h = view_guard (arena c.args.out.now.exprs) c.args.guard in
    let xs = m.registers.now in
    let x = c.args.goal.now in
    let v = c.loop-index.invariant in
    let out = c.loop-index.out in
    record {
      before = v.before;
      fault = v.fault;
      gives = goal_built d h xs x (standing c.args.out.now) (standing out) (Ok tt) (sym c.in_ok-bits.ensures.width ∙ bits_length (arena out.exprs) c.in_ok-bits.bits.items (goal_word d xs x) v.bits)
          (registers_done d h xs x c.loop-index.index (standing c.args.out.now) (standing out) (omega (arith, c.loop-index-test.false)) v.left);
    }
