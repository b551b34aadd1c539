-- The bits of the walk over all names, of which there are few.
use Rattle.std.proofs.Common.{length, take, refl, sym, subst}
use Rattle.expr_bits.proofs.Common.{take-length, arena, Names, entries_of, view, bits_of, known_of, term_of, context_for, IsMade, IsPart, term_part, AreRows}
use Rattle.expr_bits.proofs.Accepted.{accepted, few}
use Rattle.expr_bits.proofs.device_scope.DeviceScope.bits.Goals as goal

pub walk-requires : goal.walk-requires
walk-requires g c =
    let t = g.D.Device.table in
    record { rows = subst (λ (n : Names). AreRows (entries_of n) (context_for t n) 0 c.rows-rows.result.now) (sym c.self.view_is) c.rows-rows.ensures.rows }

pub shaped-requires-clause-few : goal.shaped-requires-clause-few
shaped-requires-clause-few g c =
    let t = g.D.Device.table in
    let n = c.args.self.now in
    let x = view c.args.expr.now in
    let made : IsMade IsPart (arena c.args.exprs.now) (arena c.walk.new.exprs) c.in_ok-bits.bits (term_part (context_for t n) (term_of (known_of (entries_of n)) x)) =
    rw (c.self.view_is, c.rows-rows.ensures.all, take-length (entries_of n)) at (c.in_ok-bits.ensures (term_of (known_of (take (length c.rows-rows.result.now) (entries_of c.self.inside.scope))) x) refl) in
    few n (context_for t n) x c.args.exprs.now c.walk.new.exprs c.in_ok-bits.bits c.requires.accepted refl made

pub shaped-requires-clause-positions : goal.shaped-requires-clause-positions
shaped-requires-clause-positions g c = (c.in_ok-bits.ensures _ refl).shows.positions

pub returns : goal.returns
returns g c =
    let t = g.D.Device.table in
    let n = c.args.self.now in
    let d = context_for t n in
    let x = view c.args.expr.now in
    let new = c.walk.new.exprs in
    let made : IsMade IsPart (arena c.args.exprs.now) (arena new) c.in_ok-bits.bits (term_part d (term_of d.known x)) =
    rw (c.self.view_is, c.rows-rows.ensures.all, take-length (entries_of n)) at (c.in_ok-bits.ensures (term_of (known_of (take (length c.rows-rows.result.now) (entries_of c.self.inside.scope))) x) refl) in
    accepted n d x c.args.exprs.now new c.in_ok-bits.bits c.in_ok-shaped.shaped c.requires.accepted refl made
    (λ v b z. c.in_ok-shaped.ensures (arena new) v (bits_of d (term_of d.known x)).what b z)
