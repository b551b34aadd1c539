use Rattle.std.proofs.Common.{◌<◌, length, get_or, slice_set, sym, ◌∙◌, subst, arith}
use Rattle.pin_matching.proofs.Common.{true≢false, get_or_read, IsFirstFitting, NoneFits, narrowed}
use Rattle.pin_matching.proofs.Shifts.{IsShifting, shifted_all, signal_placed, earlier, shifted}
use Rattle.pin_matching.proofs.matching.shift.Goals as goal

pub index-left-requires : goal.index-left-requires
index-left-requires c =
    let low = signal_placed c.requires.begun c.requires.reached c.loop-place.invariant (let some = c.loop-place-test.true in omega (arith, some)) in
    omega (arith, low)

pub index_mut-requires : goal.index_mut-requires
index_mut-requires c =
    let low = signal_placed c.requires.begun c.requires.reached c.loop-place.invariant (let some = c.loop-place-test.true in omega (arith, some)) in
    omega (arith, low)

pub loop-place-smaller : goal.loop-place-smaller
loop-place-smaller c =
    let some : 0 < c.loop-place.place = (let more = c.loop-place-test.true in omega (arith, more)) in
    let placed = signal_placed c.requires.begun c.requires.reached c.loop-place.invariant some in
    let left = get_or_read c.loop-place.pins.items (get_or c.args.reached.now c.loop-place.place 0) c.index-left.result.now placed c.index-left.ensures 0 in
    let found = subst (λ x. IsFirstFitting (narrowed c.args.wishes.now c.args.fixed.now) c.args.reached.now x c.in-Some.earlier) left c.in-Some.ensures.found in
    (shifted c.requires.begun c.requires.reached c.loop-place.invariant some c.in-Some.earlier found).0

pub loop-place-preserved : goal.loop-place-preserved
loop-place-preserved c =
    let some : 0 < c.loop-place.place = (let more = c.loop-place-test.true in omega (arith, more)) in
    let placed = signal_placed c.requires.begun c.requires.reached c.loop-place.invariant some in
    let left = get_or_read c.loop-place.pins.items (get_or c.args.reached.now c.loop-place.place 0) c.index-left.result.now placed c.index-left.ensures 0 in
    let found = subst (λ x. IsFirstFitting (narrowed c.args.wishes.now c.args.fixed.now) c.args.reached.now x c.in-Some.earlier) left c.in-Some.ensures.found in
    subst (λ x. IsShifting (narrowed c.args.wishes.now c.args.fixed.now) (length c.args.pins.now.items) c.args.reached.now (slice_set c.loop-place.pins.items (get_or c.args.reached.now c.loop-place.place 0) c.loop-place.pin) c.in-Some.earlier x) (sym left)
    (shifted c.requires.begun c.requires.reached c.loop-place.invariant some c.in-Some.earlier found).1

pub unreachable-requires : goal.unreachable-requires
unreachable-requires c =
    let some : 0 < c.loop-place.place = (let more = c.loop-place-test.true in omega (arith, more)) in
    let placed = signal_placed c.requires.begun c.requires.reached c.loop-place.invariant some in
    let left = get_or_read c.loop-place.pins.items (get_or c.args.reached.now c.loop-place.place 0) c.index-left.result.now placed c.index-left.ensures 0 in
    let there = earlier c.requires.begun c.requires.reached c.loop-place.invariant some in
    let within = c.loop-place.invariant.within in
    let none = subst (λ x. NoneFits (narrowed c.args.wishes.now c.args.fixed.now) c.args.reached.now x) left c.in-None.ensures.none in
    true≢false (sym there.2 ∙ none there.0 (omega (arith, there.1, within)))

pub returns : goal.returns
returns c =
    rw c.in_ok-push.ensures.items
    (shifted_all c.requires.begun c.requires.reached c.loop-place.invariant (let end = c.loop-place-test.false in omega (arith, end)))
