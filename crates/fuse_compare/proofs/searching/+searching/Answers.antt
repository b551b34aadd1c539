use Rattle.std.proofs.Common.{◌≡◌, ◌+◌, ◌<◌, false, length, drop, subst, add-one, arith, inl, inr}
use Rattle.fuse_compare.proofs.Common.{bits, length-bits, IsDecided, some_holds, Varies, VariesAt}
use Rattle.fuse_compare.proofs.Answering.{if_some}
use Rattle.fuse_compare.proofs.Branches.{pin_branch, pin_state, q_branch, q_state}
use Rattle.fuse_compare.proofs.Decided.{alike_past}
use Rattle.fuse_compare.proofs.Variables.{pin_low, pin_varies, q_low, q_varies, first_level}
use Rattle.fuse_compare.proofs.searching.+searching.Goals as goal

pub search_from-returns-in-None-clause-alike : goal.search_from-returns-in-None-clause-alike
search_from-returns-in-None-clause-alike g t c = λ none o s varies.
    let vars = c.args.search.now.vars.now in
    let within : c.args.from < length vars = omega (arith, c.requires.within, c.if-from-search.false) in
    elim (first_level vars c.args.from (bits 32 c.args.state.outside) (bits 32 c.args.state.stored) o s within varies) [
      | inl at_one ↦ c.search_at-in-None.ensures.alike none o s at_one
      | inr at_zero ↦ c.search_at.ensures.alike c.in-None.is o s at_zero
    ]

pub search_from-returns-then-not-some_meets-clause-alike : goal.search_from-returns-then-not-some_meets-clause-alike
search_from-returns-then-not-some_meets-clause-alike g t c = λ none o s varies.
    let search = c.args.search.now in
    let can = c.requires.can in
    alike_past (g.A.Logic.meaning search.a.now) (g.B.Logic.meaning search.b.now) can.shape can.first can.second search.cut.now.own.items can.is_cut.within
    (drop c.args.from search.vars.now) (bits 32 c.args.state.outside) (bits 32 c.args.state.stored) (length-bits 32 c.args.state.outside) (length-bits 32 c.args.state.stored)
    c.args.state.decided c.requires.decided
    (λ at is decided. subst (λ masks. some_holds masks at ≡ false) c.deref.ensures.value (c.some_meets.ensures c.if-not-some_meets.true at is decided)) o s varies

pub search_at-with_pin-requires : goal.search_at-with_pin-requires
search_at-with_pin-requires g t c = pin_low c.args.search.now.vars.now c.args.from c.in-Pin.pin c.requires.can.are c.in-Pin.ensures

pub search_at-with_q-requires : goal.search_at-with_q-requires
search_at-with_q-requires g t c = q_low c.args.search.now.vars.now c.args.from c.in-Q.cell c.requires.can.are c.in-Q.ensures

pub search_at-search_from-requires : goal.search_at-search_from-requires
search_at-search_from-requires g t c κs o =
    let search = c.args.search.now in
    let can = c.requires.can in
    let told = c.with_pin.ensures in
    let next : IsDecided (g.A.Logic.meaning search.a.now) (drop (c.args.from + 1) search.vars.now) (bits 32 c.with_pin.result.outside) (bits 32 c.with_pin.result.stored) c.with_pin.result.decided =
    rw (told.outside, told.stored, add-one)
    (pin_branch (g.A.Logic.meaning search.a.now) search.vars.now c.args.from can.once (bits 32 c.args.state.outside) (bits 32 c.args.state.stored)
    (length-bits 32 c.args.state.outside) (length-bits 32 c.args.state.stored) c.args.state.decided c.with_pin.result.decided c.args.on c.requires.decided
    c.in-Pin.pin (pin_low search.vars.now c.args.from c.in-Pin.pin can.are c.in-Pin.ensures) c.in-Pin.ensures (bits 32 search.cut.now.free) can.is_cut.free told.free told.driven) in
    (omega (arith, c.decreases), (o.0, (o.1, (can, (omega (arith, c.requires.within), next)))))

pub search_at-search_from-requires-in-Q : goal.search_at-search_from-requires-in-Q
search_at-search_from-requires-in-Q g t c κs o =
    let search = c.args.search.now in
    let can = c.requires.can in
    let told = c.with_q.ensures in
    let next : IsDecided (g.A.Logic.meaning search.a.now) (drop (c.args.from + 1) search.vars.now) (bits 32 c.with_q.result.outside) (bits 32 c.with_q.result.stored) c.with_q.result.decided =
    rw (told.outside, told.stored, add-one)
    (q_branch (g.A.Logic.meaning search.a.now) search.vars.now c.args.from can.once (bits 32 c.args.state.outside) (bits 32 c.args.state.stored)
    (length-bits 32 c.args.state.outside) (length-bits 32 c.args.state.stored) c.args.state.decided c.with_q.result.decided c.args.on c.requires.decided
    c.in-Q.cell (q_low search.vars.now c.args.from c.in-Q.cell can.are c.in-Q.ensures) c.in-Q.ensures (bits 32 search.cut.now.kept) can.is_cut.kept told.rests told.hidden) in
    (omega (arith, c.decreases), (o.0, (o.1, (can, (omega (arith, c.requires.within), next)))))

pub search_at-returns-in-Pin-clause-alike : goal.search_at-returns-in-Pin-clause-alike
search_at-returns-in-Pin-clause-alike g t c = λ none o s varies.
    let told = c.with_pin.ensures in
    c.search_from.ensures.alike none o s
    (rw (told.outside, told.stored, add-one)
    (pin_varies c.args.search.now.vars.now c.args.from c.in-Pin.pin c.args.on (bits 32 c.args.state.outside) (bits 32 c.args.state.stored) o s c.in-Pin.ensures varies))

pub search_at-returns-in-Q-clause-alike : goal.search_at-returns-in-Q-clause-alike
search_at-returns-in-Q-clause-alike g t c = λ none o s varies.
    let told = c.with_q.ensures in
    c.search_from-in-Q.ensures.alike none o s
    (rw (told.outside, told.stored, add-one)
    (q_varies c.args.search.now.vars.now c.args.from c.in-Q.cell c.args.on (bits 32 c.args.state.outside) (bits 32 c.args.state.stored) o s c.in-Q.ensures varies))

pub search_at-returns-in-Pin-clause-state : goal.search_at-returns-in-Pin-clause-state
search_at-returns-in-Pin-clause-state g t c =
    let told = c.with_pin.ensures in
    let vars = c.args.search.now.vars.now in
    if_some c.search_from.result
    (λ d. Varies (drop (c.args.from + 1) vars) (bits 32 c.with_pin.result.outside) (bits 32 c.with_pin.result.stored) (bits 32 d.outside) (bits 32 d.stored))
    (λ d. VariesAt (drop c.args.from vars) c.args.on (bits 32 c.args.state.outside) (bits 32 c.args.state.stored) (bits 32 d.outside) (bits 32 d.stored))
    (λ d varies. pin_state vars c.args.from c.in-Pin.pin c.args.on (bits 32 c.args.state.outside) (bits 32 c.args.state.stored) (bits 32 d.outside) (bits 32 d.stored) c.in-Pin.ensures
    (rw (told.outside, told.stored, add-one) at varies))
    c.search_from.ensures.state

pub search_at-returns-in-Q-clause-state : goal.search_at-returns-in-Q-clause-state
search_at-returns-in-Q-clause-state g t c =
    let told = c.with_q.ensures in
    let vars = c.args.search.now.vars.now in
    if_some c.search_from-in-Q.result
    (λ d. Varies (drop (c.args.from + 1) vars) (bits 32 c.with_q.result.outside) (bits 32 c.with_q.result.stored) (bits 32 d.outside) (bits 32 d.stored))
    (λ d. VariesAt (drop c.args.from vars) c.args.on (bits 32 c.args.state.outside) (bits 32 c.args.state.stored) (bits 32 d.outside) (bits 32 d.stored))
    (λ d varies. q_state vars c.args.from c.in-Q.cell c.args.on (bits 32 c.args.state.outside) (bits 32 c.args.state.stored) (bits 32 d.outside) (bits 32 d.stored) c.in-Q.ensures
    (rw (told.outside, told.stored, add-one) at varies))
    c.search_from-in-Q.ensures.state
