-- No register, and one more on the right: its literal, plain or complemented, over what was found.
use Rattle.std.proofs.Common.{◌%◌, ◌/◌, List, Err, Ok, true, false, sym, ap, ◌∙◌, subst, ◌==◌}
use Rattle.state_diagrams.proofs.Common.{err_from_is_err_and, arena, formula_at, context_for, kept_inside, make_literal, Aim, Made, Formula, MakesBit, bare_read, number_guard, signals_of, register_literal, ne_eqb}
use Rattle.state_diagrams.proofs.StateBits.{bit_keeps, bit_stops, guard_last, guard_more, guard_then, no_literal}
use Rattle.state_diagrams.proofs.guards.+state_guard.Goals as goal

pub returns-in-None : goal.returns-in-None
returns-in-None g t c = no_literal (context_for g.D.Device.table c.args.scope.now) c.args.exprs.now c.args.unit c.args.registers.now c.args.number c.in-None.ensures.cases

pub add_node-requires : goal.add_node-requires
add_node-requires g t c =
    let b = c.in_ok-bit-in-Some.ensures in
    (kept_inside _ _ c.in_ok-found-in-Some.found (bit_keeps c.args.unit _ _ (Ok c.in_ok-bit-in-Some.bit) (bare_read (context_for g.D.Device.table c.args.scope.now) c.in-Some.last.now.signal) b) c.in_ok-found-in-Some.ensures.1.0, b.1.0)

pub guard_else-requires : goal.guard_else-requires
guard_else-requires g t c =
    let b = c.in_ok-bit-in-Some.ensures in
    record {
      guard = kept_inside _ _ c.in_ok-found-in-Some.found (bit_keeps c.args.unit _ _ (Ok c.in_ok-bit-in-Some.bit) (bare_read (context_for g.D.Device.table c.args.scope.now) c.in-Some.last.now.signal) b) c.in_ok-found-in-Some.ensures.1.0;
      condition = b.1.0;
    }

pub returns-then-digit : goal.returns-then-digit
returns-then-digit g t c =
    guard_more (context_for g.D.Device.table c.args.scope.now) c.args.unit c.args.registers.now c.in-Some.others.now c.in-Some.last.now c.args.number c.args.exprs.now c.state_guard.new.exprs c.bare_bit.new.exprs c.add_node.new.exprs c.in_ok-found-in-Some.found c.in_ok-bit-in-Some.bit c.add_node.result true
    (ap (λ k. k == 1) c.if-digit.true) c.in-Some.ensures.cases.0 c.in_ok-found-in-Some.ensures c.in_ok-bit-in-Some.ensures (c.add_node.ensures.builds, c.add_node.ensures.bit)

pub returns-else-digit : goal.returns-else-digit
returns-else-digit g t c =
    guard_more (context_for g.D.Device.table c.args.scope.now) c.args.unit c.args.registers.now c.in-Some.others.now c.in-Some.last.now c.args.number c.args.exprs.now c.state_guard.new.exprs c.bare_bit.new.exprs c.guard_else.new.exprs c.in_ok-found-in-Some.found c.in_ok-bit-in-Some.bit c.guard_else.result false
    (ne_eqb (c.args.number % 2) 1 c.if-digit.false) c.in-Some.ensures.cases.0 c.in_ok-found-in-Some.ensures c.in_ok-bit-in-Some.ensures (c.guard_else.ensures.builds, c.guard_else.ensures.bit)

pub returns-in_err-found-in-Some : goal.returns-in_err-found-in-Some
returns-in_err-found-in-Some g t c =
    let p = err_from_is_err_and c.from_residual.result c.from_residual.ensures.1 in
    let d = context_for g.D.Device.table c.args.scope.now in
    let x = c.in-Some.last.now in
    let n = c.args.number in
    let f = c.in_err-found-in-Some.field-0.0 in
    let stops = bit_stops c.args.unit c.args.exprs.now c.state_guard.new.exprs f (number_guard d (signals_of c.in-Some.others.now) (n / 2)) (λ f. register_literal d f x.signal (n % 2 == 1)) c.in_err-found-in-Some.ensures in
    rw (p.1, p.2)
    (subst (λ (m : Made Formula). MakesBit c.args.unit m c.args.exprs.now c.state_guard.new.exprs (Err f))
    (sym (ap (λ (xs : List Aim). number_guard d (signals_of xs) n) c.in-Some.ensures.cases.0 ∙ guard_last d c.in-Some.others.now x n)) stops)

pub returns-in_err-bit-in-Some : goal.returns-in_err-bit-in-Some
returns-in_err-bit-in-Some g t c =
    let p = err_from_is_err_and c.from_residual-in_err-bit-in-Some.result c.from_residual-in_err-bit-in-Some.ensures.1 in
    let d = context_for g.D.Device.table c.args.scope.now in
    let x = c.in-Some.last.now in
    let found = c.in_ok-found-in-Some.found in
    let f = c.in_err-bit-in-Some.field-0.0 in
    rw (p.1, p.2)
    (guard_then d c.args.unit c.args.registers.now c.in-Some.others.now x c.args.number c.args.exprs.now c.state_guard.new.exprs c.bare_bit.new.exprs found (Err f) c.in-Some.ensures.cases.0 c.in_ok-found-in-Some.ensures
    (bit_stops c.args.unit c.state_guard.new.exprs c.bare_bit.new.exprs f (bare_read d x.signal) (λ g. make_literal (formula_at (arena c.state_guard.new.exprs) found) (c.args.number % 2 == 1) g) c.in_err-bit-in-Some.ensures))
